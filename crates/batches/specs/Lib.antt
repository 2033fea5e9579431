-- The symbols of one batch.
pub mod Batches
