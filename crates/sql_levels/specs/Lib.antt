pub mod built
