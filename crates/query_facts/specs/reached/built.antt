pub mod Closed
pub mod Reach
