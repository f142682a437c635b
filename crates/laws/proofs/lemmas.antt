-- What the laws rest on, and the crate `demands` too: `Accepted` on what a call without faults was given, `Underway` on
-- tweens, `Parameters` on parameters of either kind of values, `Floats` and `Speeds` on the two kinds, `Signed` on
-- mixes of doubles of both signs, `Waves` on phases and waves, `Clear` on fractions without a minus sign, `ClocksKept`
-- and `ModulatorsKept` on the two tables, `Entries` on what stands under an id, `OneClock` and `OneTurn` on what a
-- command and a frame make of one clock, `Sizes` on the 16 slots. `Every`, `Cases` and `Deeds` have what those from
-- `ClocksKept` on share.
pub mod Accepted
pub mod Underway
pub mod Parameters
pub mod Speeds
pub mod Signed
pub mod Floats
pub mod Waves
pub mod Clear
pub mod ClocksKept
pub mod ModulatorsKept
pub mod Entries
pub mod OneClock
pub mod OneTurn
pub mod Sizes
pub mod Every
pub mod Cases
pub mod Deeds
