pub mod Conjuncts
pub mod Reads
