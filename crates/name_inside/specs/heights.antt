pub mod High
pub mod Least
