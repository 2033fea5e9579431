-- The nodes that are not listed, from those that are.
pub mod Filling
