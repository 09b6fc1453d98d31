pub mod Fits
pub mod Sound
pub mod Fors
pub mod Fit
