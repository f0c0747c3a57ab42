pub mod Facts
pub mod Formed
pub mod Impacts
pub mod Known
pub mod Standing
