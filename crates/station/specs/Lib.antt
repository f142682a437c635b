pub mod Stations
pub mod Turns
pub mod Frames
