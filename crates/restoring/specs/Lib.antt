-- What is promised of the functions inside restoring.
pub mod Steps
