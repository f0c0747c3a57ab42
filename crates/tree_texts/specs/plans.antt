pub mod Blanks
pub mod Levels
pub mod Plans
pub mod Written
