pub mod Answers
pub mod Readers
pub mod Signs
pub mod States
pub mod Ways
pub mod Factors
