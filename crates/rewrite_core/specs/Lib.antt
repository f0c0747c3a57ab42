pub mod ColumnsOf
pub mod JoinColumns
pub mod OtherRows
pub mod ProvenanceColumns
pub mod SameGroups
pub mod UnionColumns
pub mod rewritings
