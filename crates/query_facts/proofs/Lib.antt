pub mod Alike
pub mod AlikeRows
pub mod AllPlaces
mod Gathered
mod Greatest
pub mod Nodes
