pub mod Determined
pub mod Running
pub mod Plainly
