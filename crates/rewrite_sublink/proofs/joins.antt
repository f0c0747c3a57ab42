pub mod ByPartsRows
pub mod ChosenPairs
pub mod PairColumns
pub mod SideRows
