pub mod Index
pub mod Spots
pub mod Lent
