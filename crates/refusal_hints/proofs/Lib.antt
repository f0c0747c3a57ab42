pub mod Distances
pub mod Numbered
pub mod Parted
pub mod Reading
pub mod Rows
