pub mod Chaining
pub mod OfResults
pub mod Standing
