-- Laws that the functions' proofs cite: `Places` on words and their bytes, `Outcomes` on the statements themselves.
pub mod Places
pub mod Outcomes
