pub mod Places
pub mod Forming
pub mod ReadsBack
pub mod Agreeing
pub mod Lines
pub mod Short
pub mod Count
