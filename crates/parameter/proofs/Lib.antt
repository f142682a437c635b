-- Laws that the functions' proofs and the crates above cite: `Left` on what a refused set or update leaves, `Floats` on
-- the definitions at doubles, `Outcomes` on the statements themselves.
pub mod Left
pub mod Floats
pub mod Outcomes
