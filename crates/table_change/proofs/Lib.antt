pub mod Wrapping
pub mod Changing
pub mod Inserting
pub mod Parts
pub mod Totals
