-- Nodes compared with what would be filled in.
pub mod Comparing
