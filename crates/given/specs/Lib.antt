pub mod Replica
pub mod Cluster
pub mod Statements
pub mod Translation
