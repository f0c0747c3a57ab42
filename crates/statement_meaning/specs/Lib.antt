pub mod Answers
pub mod Asking
pub mod Carrying
pub mod Ready
pub mod Turns
pub mod laws
pub mod explains
