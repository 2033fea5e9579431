-- Laws of correcting: a signed change; what the corrected nodes hold; what follows for the promise.
pub mod Signed
pub mod Changing
pub mod Factors
pub mod Solved
pub mod Corrected
pub mod Differing
pub mod Assembled
pub mod Promised
