-- Opening many stretches of a transcript in one reading: which bytes are wanted and which columns touched, when the call turns back, and what is promised.
pub mod Stretches
pub mod Refusals
pub mod Steps
pub mod Promises
