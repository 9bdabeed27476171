pub mod Listing
pub mod Showing
pub mod Scanning
pub mod Tabled
