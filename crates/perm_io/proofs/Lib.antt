pub mod Known
mod Places
