-- Messages in the order they arrive (document 02 §8): what a new node keeps between the calls, when they turn back, what is promised.
pub mod Sums
pub mod Record
pub mod Promises
