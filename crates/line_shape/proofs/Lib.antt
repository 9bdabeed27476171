pub mod Places
pub mod Spelling
pub mod Counting
pub mod Filling
pub mod Taking
pub mod Found
