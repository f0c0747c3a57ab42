pub mod FirstColumns
pub mod KeptClosed
pub mod Places
