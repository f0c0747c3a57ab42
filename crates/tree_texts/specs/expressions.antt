pub mod ExpressionTexts
pub mod Names
pub mod Used
pub mod Uses
pub mod Words
