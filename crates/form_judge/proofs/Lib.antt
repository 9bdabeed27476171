pub mod Judging
pub mod Resaving
