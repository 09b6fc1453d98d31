pub mod Lent
pub mod Statements
pub mod Determined
