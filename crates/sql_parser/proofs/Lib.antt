pub mod Keeping
pub mod Literals
pub mod Regularity
pub mod Stating
pub mod Tabled
pub mod Texts
pub mod Whole
