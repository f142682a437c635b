-- Laws that the crates above cite: `Seen` on what each turn of a frame sees, `Outcomes` on the statements themselves.
-- `ModulatorTurns` and `ClockTurns` have what the frame's two loops keep, and `Frames` what it answers by what they
-- leave.
pub mod ClockTurns
pub mod ModulatorTurns
pub mod Frames
pub mod Seen
pub mod Outcomes
