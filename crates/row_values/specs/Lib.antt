pub mod Answers
pub mod Columns
pub mod Foremost
pub mod Groups
pub mod Operands
pub mod Parts
