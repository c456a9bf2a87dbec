pub mod Decimals
pub mod Values
pub mod Spaces
