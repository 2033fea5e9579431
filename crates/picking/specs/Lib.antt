-- Multipliers picked from few.
pub mod Picking
