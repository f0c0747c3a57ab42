pub mod Reading
pub mod Scopes
