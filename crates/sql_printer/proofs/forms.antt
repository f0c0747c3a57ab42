pub mod EndedTexts
pub mod FitsExpressions
pub mod FitsQueries
pub mod OpenedExpressions
pub mod PlainWords
pub mod PrintableNodes
pub mod WritableQueries
