pub mod KeptColumns
pub mod OpenSublinks
pub mod Rewritten
pub mod UnionSides
