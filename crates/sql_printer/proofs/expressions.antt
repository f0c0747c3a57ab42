mod ReadOperators
pub mod KindsOf
pub mod PlainShown
pub mod PlainTrees
pub mod ReadExpressions
pub mod ReadForms
pub mod ReadLeaves
pub mod ReadNodes
pub mod ReadParts
pub mod ReadScopes
