pub mod OverQueries
pub mod TablesOver
