pub mod Digits
pub mod Bytes
pub mod Reading
pub mod Writing
pub mod Spelling
pub mod Keeping
pub mod Picking
