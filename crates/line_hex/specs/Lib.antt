pub mod Choice
pub mod Numbers
pub mod Hex
pub mod Decoding
pub mod Putting
pub mod Keeping
