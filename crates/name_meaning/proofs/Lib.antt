mod Aggregates
mod Arms
pub mod ArmsMade
pub mod Ascending
mod Bodies
pub mod Chains
mod CoreSteps
mod Cores
pub mod Equations
pub mod Every
mod ExpressionForms
pub mod FactsOf
mod Filled
mod FilledTrees
pub mod FittingTables
mod FormedParts
mod FormedTrees
pub mod Forms
pub mod FormsMade
mod FoundColumns
mod Froms
mod GoodMeant
mod Grouped
mod Holding
pub mod Impacts
pub mod Induction
pub mod ItemLists
mod Items
pub mod Joins
mod Kept
mod KeptCores
mod KeptFroms
mod KeptItems
mod KeptQueries
mod KeptTrees
pub mod KindsOf
pub mod Lateral
pub mod Linking
pub mod Named
mod NamedPlaces
pub mod Needs
pub mod Opened
pub mod Parts
mod Queries
mod ReadCores
mod ReadFroms
mod ReadMeant
mod ReadNodes
mod ReadTrees
pub mod SettledKinds
mod Standing
mod SteadyMeant
mod Sublinks
pub mod Times
pub mod TreeLaws
pub mod Trees
pub mod United
pub mod Uniting
