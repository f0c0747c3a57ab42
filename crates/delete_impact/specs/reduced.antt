pub mod Hiding
pub mod Reads
pub mod Reduced
pub mod Splitting
