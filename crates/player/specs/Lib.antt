pub mod Played
pub mod Remembered
