pub mod Clocks
pub mod Blocks
pub mod Padded
pub mod Bytes
pub mod Slots
