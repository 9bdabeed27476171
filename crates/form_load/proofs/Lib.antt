pub mod Nexts
pub mod Loads
pub mod Outcomes
pub mod Going
