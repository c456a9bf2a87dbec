pub mod Call
pub mod Running
pub mod Life
pub mod Rounds
pub mod Theorems
