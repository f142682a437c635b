-- `Outcomes` on the statements themselves.
pub mod Outcomes
