-- Laws of the check, lowest first.
pub mod Answers
pub mod Gathering
pub mod Meeting
pub mod Checking
pub mod Data
pub mod Promised
pub mod Sound
