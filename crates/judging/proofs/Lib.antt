-- What is known of a repair that is not turned back.
pub mod Judged
