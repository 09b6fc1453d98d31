pub mod Rules
pub mod Runs
pub mod Fronts
