pub mod Fors
pub mod Worlds
pub mod Determined
