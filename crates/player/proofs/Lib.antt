pub mod Calls
pub mod Remembers
