pub mod Events
pub mod Commands
