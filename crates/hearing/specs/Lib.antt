-- Hearing a helper: what is promised of the functions inside.
pub mod Steps
