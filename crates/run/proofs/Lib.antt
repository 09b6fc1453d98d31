pub mod Tallies
pub mod Onwards
pub mod Members
pub mod Turns
pub mod Starts
pub mod Determined
