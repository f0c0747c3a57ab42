pub mod Carried
pub mod Plans
pub mod Sides
