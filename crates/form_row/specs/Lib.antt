pub mod LoadHead
pub mod Joining
