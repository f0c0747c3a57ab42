pub mod Chained
pub mod Cored
pub mod Listed
pub mod Makes
