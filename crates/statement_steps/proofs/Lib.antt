mod Lost
pub mod Selected
pub mod SomeFound
pub mod Unfiled
