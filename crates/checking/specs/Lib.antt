-- What the check answers, and what is promised of it.
pub mod Promises
pub mod Steps
