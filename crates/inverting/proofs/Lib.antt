-- Laws of the inverses of a row.
pub mod Inverses
