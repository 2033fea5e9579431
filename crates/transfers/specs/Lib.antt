-- The transfer plan, and what the functions that write it promise.
pub mod Plan
pub mod Promises
