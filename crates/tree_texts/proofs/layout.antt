pub mod LaidRead
pub mod Touching
pub mod WovenTokens
