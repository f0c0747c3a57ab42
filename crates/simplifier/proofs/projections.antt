pub mod AlikeForms
pub mod CarriedSublinks
pub mod Inputs
pub mod MadeRows
pub mod Picks
pub mod RaisedFilters
pub mod RaisedJoins
pub mod WholeProjects
