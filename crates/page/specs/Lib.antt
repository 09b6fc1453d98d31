pub mod Walk
pub mod Edits
pub mod Listing
pub mod Standing
pub mod Tables
