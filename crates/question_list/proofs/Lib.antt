pub mod Scanned
pub mod Walks
pub mod Lists
