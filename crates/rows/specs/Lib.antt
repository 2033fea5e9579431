-- Rows: what stands at consecutive places.
pub mod Rows
