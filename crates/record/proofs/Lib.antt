pub mod Fitting
pub mod Live
pub mod Fitted
pub mod Lettered
pub mod Statements
pub mod Determined
