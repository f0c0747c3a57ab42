pub mod Comparing
pub mod Connecting
pub mod Counts
pub mod Parts
