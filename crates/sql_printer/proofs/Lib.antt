pub mod NamedTables
pub mod NarrowQueries
pub mod PrintedAnswers
