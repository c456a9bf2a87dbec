pub mod Ranged
pub mod State
pub mod Log
