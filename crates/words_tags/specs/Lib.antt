pub mod Relations
pub mod Clocks
