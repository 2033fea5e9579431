-- Laws of adding a message to the kept sums.
pub mod Adding
