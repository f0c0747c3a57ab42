pub mod EndedTexts
pub mod Printable
