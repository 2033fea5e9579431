-- Laws of transfers in an order, lowest first.
pub mod Times
pub mod InPlan
pub mod Counted
pub mod Followed
pub mod Running
pub mod Promised
pub mod Called
