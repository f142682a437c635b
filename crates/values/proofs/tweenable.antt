-- What the modules and crates above cite: `Floats` on the definitions at doubles, `Outcomes` on the statements
-- themselves.
pub mod Floats
pub mod Outcomes
