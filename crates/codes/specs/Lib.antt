pub mod Codes
pub mod Operators
