pub mod Values
pub mod Readings
pub mod Compiles
pub mod Stacks
pub mod Firsts
pub mod Replies
pub mod Meaning
pub mod Determined
