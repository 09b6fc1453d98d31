pub mod Index
pub mod Compared
pub mod Below
pub mod Fronts
pub mod Lent
pub mod Determined
