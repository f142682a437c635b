pub mod Asked
pub mod Verdicts
pub mod Replays
pub mod OneByOne
