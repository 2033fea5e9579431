-- Numbers in seven-bit groups.
pub mod Numbers
