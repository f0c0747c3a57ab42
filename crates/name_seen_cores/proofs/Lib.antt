pub mod Adding
pub mod Alone
pub mod Behind
mod Called
pub mod Cored
pub mod Forms
pub mod Grouped
pub mod Lists
mod Named
pub mod NamedViews
pub mod Opened
pub mod Placed
pub mod Plain
pub mod Queried
mod Results
pub mod Sourced
mod Starred
pub mod Sublinked
