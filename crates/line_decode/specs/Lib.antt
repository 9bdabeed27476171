pub mod Decoding
pub mod Text
pub mod Feeding
pub mod LineKinds
