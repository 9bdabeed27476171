pub mod TotalChange
pub mod Changes
