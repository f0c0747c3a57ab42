pub mod Selects
pub mod Sources
