-- Laws of finishing, lowest first.
pub mod Answers
pub mod Finished
pub mod Orders
