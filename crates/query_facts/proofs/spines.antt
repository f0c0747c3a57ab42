pub mod Nodes
pub mod Smaller
