pub mod Saying
pub mod Framing
pub mod Choosing
pub mod Short
pub mod OutputLines
