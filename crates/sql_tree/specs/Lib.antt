pub mod Regular
pub mod grammar
