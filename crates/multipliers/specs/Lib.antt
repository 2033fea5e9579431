-- What each known entry of a column is multiplied by in a missing one.
pub mod Multipliers
