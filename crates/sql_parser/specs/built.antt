pub mod Ending
pub mod Literals
pub mod Statements
