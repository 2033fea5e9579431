-- The promises of the C interface.
pub mod Promises
