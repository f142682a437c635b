pub mod ClockLines
pub mod ModulatorLines
pub mod Things
