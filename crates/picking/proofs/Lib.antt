-- Laws of what is picked.
pub mod Picking
