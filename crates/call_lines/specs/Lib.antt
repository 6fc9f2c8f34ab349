pub mod Call
pub mod Hex
pub mod Line
