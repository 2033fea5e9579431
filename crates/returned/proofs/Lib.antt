-- Laws behind the C interface.
pub mod Equations
pub mod Cards
