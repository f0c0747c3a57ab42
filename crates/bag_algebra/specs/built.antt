pub mod FaultFree
pub mod Forms
pub mod Measures
pub mod Openings
pub mod Patterns
pub mod Scopes
