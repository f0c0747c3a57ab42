pub mod Chains
pub mod ClauseTexts
pub mod Frames
pub mod Keys
pub mod Names
pub mod Unused
