pub mod Projected
pub mod Spared
