-- Laws of filling in, lowest first.
pub mod Summing
pub mod Runs
pub mod Filling
