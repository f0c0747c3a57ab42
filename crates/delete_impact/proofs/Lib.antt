mod Answered
pub mod Below
mod BothParts
mod Conditions
mod FewerFaults
pub mod KeptNodes
pub mod KeptQueries
mod LookedThrough
mod ReducedRows
pub mod Spared
mod Tested
pub mod Unread
pub mod VanishingRows
mod WithFaults
