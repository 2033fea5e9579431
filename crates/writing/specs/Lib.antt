-- What is promised of the functions inside writing.
pub mod Steps
