pub mod AskedListing
pub mod Coring
pub mod Listing
pub mod Querying
pub mod Segmented
pub mod Settling
pub mod Sourcing
