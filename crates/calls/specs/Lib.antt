pub mod Tables
pub mod Past
