-- Correcting one byte: a signed change, what the nodes hold afterwards, when the call turns back, and what is promised.
pub mod Signed
pub mod Correcting
pub mod Steps
pub mod Promises
