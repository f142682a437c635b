-- `Lines` on what stands behind a name, `Outcomes` on the statements themselves.
pub mod Lines
pub mod Outcomes
