-- Laws that the functions' proofs cite: `Runs` on words, `Digits` on numbers as digits, `Bytes` on bytes that are the
-- same, `Tables` on tables of names, `Outcomes` on the statements themselves.
pub mod Runs
pub mod Digits
pub mod Bytes
pub mod Tables
pub mod Outcomes
