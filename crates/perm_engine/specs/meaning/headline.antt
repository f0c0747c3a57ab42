pub mod Answers
pub mod Changes
pub mod Course
pub mod Freshness
pub mod Headline
pub mod Sources
pub mod Words
