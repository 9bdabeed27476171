pub mod Pieces
pub mod Chunks
pub mod RowWords
pub mod Whole
pub mod Reading
pub mod Spelling
pub mod Changing
