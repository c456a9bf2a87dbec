pub mod Clocks
pub mod Numbers
pub mod Views
pub mod Events
pub mod Entries
pub mod Puts
pub mod Carried
pub mod Exact
