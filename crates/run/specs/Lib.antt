pub mod StepEnds
pub mod Fetching
pub mod Running
