pub mod OverLiterals
pub mod Rebuilt
pub mod Settling
pub mod SimpleNodes
