-- The inverses of a row.
pub mod Inverses
