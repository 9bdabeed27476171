pub mod TableTests
pub mod Checked
