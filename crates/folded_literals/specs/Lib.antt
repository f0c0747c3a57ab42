pub mod Constants
pub mod Rebuilt
pub mod Settled
pub mod Simple
pub mod built
