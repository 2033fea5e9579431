-- Least common multiples, the layers that a list of losses needs, and the theorems of document 02 §6.
pub mod Multiples
pub mod Needed
pub mod Promised
pub mod Values
pub mod Texts
pub mod Accepting
