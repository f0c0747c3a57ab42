pub mod ComparisonLaws
mod Keys
mod LikeLaws
mod Walk
