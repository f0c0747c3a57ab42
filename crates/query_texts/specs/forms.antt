pub mod Examples
pub mod Pieces
pub mod ShownExpressions
pub mod ShownQueries
