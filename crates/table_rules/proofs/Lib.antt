pub mod Heading
pub mod Parts
pub mod Holding
pub mod Checking
