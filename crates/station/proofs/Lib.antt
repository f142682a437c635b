-- Laws that the functions' proofs and the crates above cite: `Filled` on an array that a loop fills, `Outcomes` on the
-- statements themselves.
pub mod Filled
pub mod Outcomes
