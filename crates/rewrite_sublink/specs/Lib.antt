pub mod Candidates
pub mod SubRewritings
pub mod joins
