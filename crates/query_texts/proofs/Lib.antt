pub mod OpenedQueries
pub mod Said
pub mod SaidClauses
pub mod SaidExpressions
pub mod SaidLists
pub mod SaidOperators
pub mod SaidQueries
pub mod Shaped
