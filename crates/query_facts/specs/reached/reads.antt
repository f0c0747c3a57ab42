pub mod Columns
pub mod built
