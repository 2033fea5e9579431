-- What is promised of the work on the wire buffer.
pub mod Wires
