-- What each listed node's symbol is multiplied by in a data symbol.
pub mod Factors
