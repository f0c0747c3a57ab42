pub mod Conditions
pub mod Monotone
