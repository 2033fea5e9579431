-- The patterns of the nodes that are not listed.
pub mod Patterns
