pub mod Short
pub mod Codes
pub mod Lists
pub mod Lines
pub mod Replies
pub mod InTurn
