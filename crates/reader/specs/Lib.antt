pub mod Code
pub mod Forms
pub mod Answers
pub mod Depth
