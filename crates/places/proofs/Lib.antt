pub mod Asked
pub mod Checks
pub mod Places
pub mod Determined
