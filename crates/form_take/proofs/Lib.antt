pub mod Words
pub mod Closing
