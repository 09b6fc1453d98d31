pub mod Whole
pub mod Ends
