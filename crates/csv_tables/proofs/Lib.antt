pub mod Fields
pub mod Fitting
pub mod InLoop
pub mod Joining
pub mod ReadBack
pub mod Records
pub mod Rules
