-- Laws of batches.
pub mod Batches
