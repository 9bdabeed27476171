pub mod Testing
pub mod Dropping
