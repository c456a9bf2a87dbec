pub mod Sizes
pub mod Replies
