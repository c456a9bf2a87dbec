pub mod Answered
pub mod Running
