pub mod Asks
pub mod Beside
pub mod Freshened
pub mod Kept
pub mod Leaving
pub mod Lost
pub mod Printed
pub mod Sounder
