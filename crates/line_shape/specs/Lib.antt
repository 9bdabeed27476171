pub mod Places
pub mod Shapes
pub mod Reading
pub mod Readers
