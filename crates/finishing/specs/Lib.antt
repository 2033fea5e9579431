-- Finishing a first step: what is promised of the functions inside.
pub mod Steps
