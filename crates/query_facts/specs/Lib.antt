pub mod reached
pub mod monotone
