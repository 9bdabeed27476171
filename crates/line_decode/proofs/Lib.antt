pub mod Decoding
pub mod Keeping
pub mod Said
pub mod Feeding
pub mod KindOfType
