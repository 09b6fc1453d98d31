pub mod Strings
pub mod Storing
pub mod Determined
