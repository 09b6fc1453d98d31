pub mod Table
pub mod Turns
pub mod Steps
pub mod Fronts
pub mod Determined
