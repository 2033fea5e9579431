-- Laws of multipliers, lowest first.
pub mod Totals
pub mod Units
pub mod Multipliers
pub mod Opposites
