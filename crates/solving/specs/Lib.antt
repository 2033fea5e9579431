-- What is promised of a first step: sums solved and handed out.
pub mod Solving
