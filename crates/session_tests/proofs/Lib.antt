pub mod LastStatement
