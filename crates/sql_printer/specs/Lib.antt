pub mod Called
pub mod rows
pub mod forms
pub mod expressions
pub mod cores
pub mod groups
pub mod answers
pub mod explained
