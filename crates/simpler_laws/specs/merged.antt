pub mod Once
pub mod Substituted
