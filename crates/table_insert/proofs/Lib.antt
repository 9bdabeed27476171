pub mod Placing
pub mod Ordering
