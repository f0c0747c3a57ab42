pub mod Changes
pub mod Columns
pub mod Contents
pub mod Held
pub mod Lookups
pub mod Sound
pub mod Stored
pub mod sets
