pub mod Least
pub mod Settled
