pub mod Joining
pub mod Nodes
