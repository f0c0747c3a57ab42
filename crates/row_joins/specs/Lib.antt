pub mod Agreeing
pub mod Cells
pub mod Equated
pub mod Guards
pub mod Hashed
pub mod Joins
pub mod Partners
pub mod Places
