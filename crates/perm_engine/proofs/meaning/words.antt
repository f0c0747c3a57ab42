pub mod Asked
pub mod Numbers
pub mod Requested
pub mod Walked
