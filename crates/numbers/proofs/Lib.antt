-- Laws of numbers in seven-bit groups.
pub mod Numbers
pub mod Numerals
pub mod Groups
pub mod Places
pub mod Cut
pub mod Wider
