pub mod Values
pub mod Listed
pub mod Told
pub mod Short
