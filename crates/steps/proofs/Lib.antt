-- Laws of what a new node stores and gets from the others, lowest first.
pub mod Pieces
pub mod Storing
pub mod Turned
pub mod Providers
pub mod Beginning
pub mod Recovery
