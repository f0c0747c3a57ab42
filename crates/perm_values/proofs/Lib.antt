pub mod Fits
pub mod Keeping
pub mod Lists
pub mod Ranges
pub mod Results
pub mod Steps
pub mod Taken
