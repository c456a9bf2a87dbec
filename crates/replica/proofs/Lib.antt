mod Replies
mod Running
