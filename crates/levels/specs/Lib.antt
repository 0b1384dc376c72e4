pub mod Nodes
pub mod Counts
pub mod Search
