-- Laws of restoring.
pub mod Placing
