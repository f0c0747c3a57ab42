pub mod Copied
pub mod Refused
