pub mod Parts
pub mod Simulation
pub mod Clusters
pub mod Rounds
pub mod Statements
pub mod Programs
