pub mod Forms
pub mod Seeking
pub mod Session
