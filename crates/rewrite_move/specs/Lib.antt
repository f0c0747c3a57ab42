pub mod ForcedTruths
pub mod Moved
pub mod Shares
pub mod Traced
