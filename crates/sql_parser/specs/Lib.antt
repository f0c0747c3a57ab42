pub mod Levels
pub mod Nesting
pub mod Spells
pub mod Texts
pub mod built
