-- An ordered list of transfers: whether it may run, what running it leaves, and what is promised of the call.
pub mod Ordering
pub mod Running
pub mod Following
pub mod Promises
