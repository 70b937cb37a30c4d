pub mod Recovery
pub mod Work
pub mod Patterns
