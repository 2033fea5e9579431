-- Laws of patterns.
pub mod Patterns
