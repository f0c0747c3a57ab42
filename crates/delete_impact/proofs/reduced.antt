pub mod BehindRows
pub mod MissingRows
mod NoneHidden
mod OnOneSide
pub mod OverRowsForms
mod OverRowsMade
pub mod ReadKinds
