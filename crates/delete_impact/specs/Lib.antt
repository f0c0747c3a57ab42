pub mod Answering
pub mod Impact
pub mod vanishing
pub mod reduced
