pub mod Reading
pub mod Takes
pub mod Queue
pub mod Settled
pub mod Found
