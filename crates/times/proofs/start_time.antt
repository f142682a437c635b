-- What the modules and crates above cite: `Outcomes` on the statements themselves.
pub mod Outcomes
