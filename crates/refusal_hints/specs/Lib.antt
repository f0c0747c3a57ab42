pub mod Advice
pub mod Distance
pub mod Fields
pub mod Hints
pub mod Names
pub mod Tables
pub mod Words
