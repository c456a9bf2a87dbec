pub mod Overs
pub mod Sizes
