-- Laws of the factors of data symbols.
pub mod Factors
