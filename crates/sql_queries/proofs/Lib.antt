pub mod Parts
pub mod Selecting
