pub mod Recordings
pub mod Lengths
pub mod Writings
