pub mod Added
pub mod Marks
pub mod Queried
pub mod Readings
