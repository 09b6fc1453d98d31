pub mod Values
pub mod Forms
pub mod Saving
pub mod Opening
pub mod Loading
pub mod OneOutcome
