pub mod Added
pub mod Fronts
pub mod Guesses
pub mod Pieces
pub mod Spelt
