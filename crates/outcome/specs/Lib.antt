pub mod Ends
pub mod Lends
