pub mod Station
pub mod Lines
pub mod Conditions
pub mod Session
