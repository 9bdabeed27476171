pub mod Called
pub mod LoadsExactly
pub mod Saved
pub mod Again
