-- What is promised of the functions inside opening.
pub mod Steps
