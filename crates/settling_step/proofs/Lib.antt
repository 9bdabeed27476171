pub mod Deciding
pub mod Testing
pub mod Ruled
pub mod OneStep
