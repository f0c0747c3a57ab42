pub mod Pairs
pub mod PrimariesRead
