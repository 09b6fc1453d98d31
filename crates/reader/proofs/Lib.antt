pub mod Ends
pub mod Heads
pub mod Members
pub mod Spending
pub mod Ways
pub mod Depth
