pub mod Arithmetic
pub mod Comparison
pub mod Like
pub mod LikeStep
pub mod Logic
pub mod Operators
