pub mod Answered
pub mod Entered
