pub mod RowsAfter
pub mod Putting
pub mod Keys
pub mod Arriving
pub mod Made
pub mod Chain
pub mod Kept
