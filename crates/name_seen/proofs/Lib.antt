mod Conditions
mod CoreSteps
pub mod FromTrees
mod Joined
mod ListItems
mod Nodes
mod QuerySteps
pub mod Rows
mod WhereSeen
