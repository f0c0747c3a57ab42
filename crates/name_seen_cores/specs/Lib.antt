pub mod Behind
pub mod Expressed
pub mod Inner
pub mod Listed
pub mod Shown
pub mod from
