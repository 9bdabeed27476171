pub mod Along
pub mod Feeding
pub mod Ending
pub mod Programs
