pub mod Pairs
pub mod Zips
pub mod Lessening
pub mod Relations
