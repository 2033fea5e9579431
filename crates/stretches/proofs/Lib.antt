-- Laws of stretches.
pub mod Wanted
pub mod Runs
pub mod Walks
pub mod Alone
pub mod Touching
pub mod Pairs
pub mod Judging
pub mod Rows
pub mod Opened
pub mod Promised
