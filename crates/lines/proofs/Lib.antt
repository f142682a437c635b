-- What holds of the functions' statements themselves: `Outcomes`.
pub mod Outcomes
