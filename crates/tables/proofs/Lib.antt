-- Laws of tables.
pub mod Tables
