pub mod Alike
pub mod Fitting
pub mod Gathering
pub mod Replying
