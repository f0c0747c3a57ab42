pub mod Applied
pub mod Dependent
