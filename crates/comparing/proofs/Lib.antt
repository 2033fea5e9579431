-- Laws of comparing.
pub mod Comparing
