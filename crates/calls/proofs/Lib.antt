pub mod Tables
pub mod First
pub mod OneOutcome
