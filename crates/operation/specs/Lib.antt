pub mod Operations
pub mod Fine
pub mod Stacks
