pub mod Doomed
pub mod Vanishing
