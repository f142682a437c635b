-- `Outcomes` on the statements themselves; `Told` on what a result says.
pub mod Outcomes
pub mod Told
