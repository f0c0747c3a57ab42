pub mod Freshness
pub mod Reads
