pub mod Tested
pub mod Falling
pub mod Answering
pub mod Counting
