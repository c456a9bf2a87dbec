pub mod Logs
pub mod Changes
