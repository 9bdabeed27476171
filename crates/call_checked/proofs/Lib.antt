pub mod Shaped
pub mod Settling
pub mod Opening
pub mod Asking
pub mod Receiving
pub mod Issuing
