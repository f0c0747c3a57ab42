pub mod Aggregating
pub mod AnyColumns
pub mod Arms
pub mod Attributed
pub mod Firsts
pub mod KnownNames
pub mod Labels
mod Levels
pub mod Matches
pub mod NamedColumns
pub mod OperandLists
mod OperatorRows
pub mod Placed
pub mod Scoping
pub mod SeenAs
pub mod Settled
pub mod Uniting
