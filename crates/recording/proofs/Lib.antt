-- Laws that the proofs of functions, and the crates above, cite: `Lines` on the first line of bytes, `Places` on what
-- follows a record, `Written` on reading back what was written down. `Outcomes` is on the statement itself.
pub mod Lines
pub mod Outcomes
pub mod Places
pub mod Written
