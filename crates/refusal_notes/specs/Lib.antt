pub mod Causes
pub mod Excerpts
pub mod Hints
pub mod Notes
pub mod Sentences
pub mod places
