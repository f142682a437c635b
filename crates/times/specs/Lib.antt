pub mod Durations
pub mod Times
pub mod Starts
pub mod Easings
pub mod Subtractions
