-- Laws of the transfers and their text.
pub mod Transfers
pub mod Decimals
pub mod Puts
pub mod Lines
pub mod Room
pub mod Printed
