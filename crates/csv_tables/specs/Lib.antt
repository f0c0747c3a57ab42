pub mod AnswerText
pub mod Lines
pub mod Loading
pub mod ReadBack
