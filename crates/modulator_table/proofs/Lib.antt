-- Laws that the functions' proofs and the crates above cite: `Lookups` on a slot that a set leaves, `Outcomes` on the
-- statements themselves.
pub mod Lookups
pub mod Outcomes
