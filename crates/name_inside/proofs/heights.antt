pub mod Chains
pub mod Equations
pub mod Forms
pub mod Nodes
pub mod Operands
pub mod Parts
