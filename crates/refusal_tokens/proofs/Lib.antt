pub mod Beginning
pub mod Choosing
pub mod Saying
