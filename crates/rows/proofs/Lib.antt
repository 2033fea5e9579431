-- Laws of rows.
pub mod Rows
