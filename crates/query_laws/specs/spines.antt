pub mod PlacedColumns
pub mod Spines
