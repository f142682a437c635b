pub mod Answers
pub mod ClockCommands
pub mod ModulatorCommands
