mod GroupedCores
mod ReadAggregates
mod ReadArguments
pub mod ReadGroups
