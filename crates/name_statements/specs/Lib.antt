pub mod Earlier
pub mod Own
pub mod Resolves
