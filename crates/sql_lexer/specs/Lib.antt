pub mod Bytes
pub mod Lexes
pub mod Printing
pub mod Reading
pub mod Reserved
pub mod Spelled
pub mod Undoubled
