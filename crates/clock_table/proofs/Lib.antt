-- Laws that the functions' proofs and the crates above cite: `Slots` on what is stored, `Outcomes` on the statements
-- themselves. `Lookups` is what the proofs of the calls cite.
pub mod Slots
pub mod Outcomes
pub mod Lookups
pub mod Looked
