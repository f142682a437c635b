-- Laws that the functions' proofs cite: `Slots` on the text of a frame's slots, `Lfs` on LFs that are shown, `Outcomes`
-- on the statements themselves.
mod Slots
mod Lfs
pub mod Outcomes
