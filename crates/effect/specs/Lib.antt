pub mod Worlds
pub mod Acts
pub mod Lines
