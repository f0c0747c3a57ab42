pub mod ClosedNodes
pub mod MadeQueries
pub mod NoRowLost
pub mod SublinkLists
pub mod TracedQueries
