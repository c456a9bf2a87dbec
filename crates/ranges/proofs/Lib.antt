pub mod Counts
pub mod Tests
