pub mod QueryTexts
pub mod built
pub mod forms
pub mod clauses
