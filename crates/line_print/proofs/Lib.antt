pub mod Sayable
pub mod Spelling
pub mod Joined
pub mod Named
