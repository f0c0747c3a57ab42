pub mod Begins
pub mod Fronts
pub mod Hints
pub mod Standing
pub mod Tables
