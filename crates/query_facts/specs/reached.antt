pub mod InUsize
pub mod Reach
pub mod built
pub mod reads
