pub mod Told
pub mod Replies
