pub mod Operators
pub mod Digits
pub mod Writes
