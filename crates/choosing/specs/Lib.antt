-- Layers for a list of losses: the definitions, and what is promised of the call.
pub mod Layers
pub mod Promises
