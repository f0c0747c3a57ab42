pub mod Bare
pub mod Forced
pub mod projections
