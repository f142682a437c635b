-- Laws that the functions' proofs and the crates above cite: `Compares` on `compare`, `Halves` on a product in two
-- parts, `Spans` on what `nanos` answers, `Outcomes` on the statements themselves.
pub mod Compares
pub mod Halves
pub mod Spans
pub mod Outcomes
