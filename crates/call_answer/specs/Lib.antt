pub mod Answering
pub mod OutputLines
