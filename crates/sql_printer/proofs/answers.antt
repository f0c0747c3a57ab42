pub mod PlainAnswers
mod ReadAnswers
mod ReadRows
mod ReadTableCores
mod ReadTables
mod ReadTrees
