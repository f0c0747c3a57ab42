pub mod Sessions
pub mod meaning
