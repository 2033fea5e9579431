-- Laws of what a new node works out and hands out, lowest first.
pub mod Slots
pub mod Puts
pub mod Entries
pub mod Sending
