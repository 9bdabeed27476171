pub mod Loading
pub mod Session
