-- What is promised of a message and of a second step: pairs stored, and ranks crossed.
pub mod Storing
