pub mod Scanning
pub mod Contents
pub mod Tagging
pub mod Chaining
pub mod RowMeaning
pub mod Ordering
