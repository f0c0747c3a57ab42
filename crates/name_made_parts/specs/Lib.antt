pub mod AskedColumns
pub mod Cored
pub mod Segments
pub mod Shown
pub mod Sources
