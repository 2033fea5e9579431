-- Laws of opening by multipliers, lowest first.
pub mod Fitting
pub mod Walking
pub mod Places
pub mod Judged
