pub mod Fresh
pub mod Printed
pub mod Running
pub mod Runs
pub mod Settling
pub mod changes
