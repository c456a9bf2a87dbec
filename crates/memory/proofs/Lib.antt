pub mod Rings
pub mod Images
pub mod Sound
pub mod Faithful
pub mod Starts
pub mod State
pub mod Running
