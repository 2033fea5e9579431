-- The multipliers of a run of consecutive a.
pub mod Tables
