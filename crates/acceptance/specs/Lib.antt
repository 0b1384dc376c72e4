pub mod Nodes
pub mod Stages
pub mod Reports
