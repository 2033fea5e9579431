-- Laws of the wire buffer and of the nodes behind each rank, lowest first.
pub mod OnWire
pub mod Passing
pub mod Ranked
