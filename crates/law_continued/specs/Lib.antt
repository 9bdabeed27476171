pub mod Continuing
pub mod LoadConditions
