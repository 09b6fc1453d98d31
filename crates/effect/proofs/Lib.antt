pub mod Answers
pub mod Codes
pub mod Determined
pub mod Acts
