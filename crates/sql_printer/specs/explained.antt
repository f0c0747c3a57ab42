pub mod Alone
pub mod Explaining
pub mod Reading
