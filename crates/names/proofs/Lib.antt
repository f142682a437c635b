-- Laws that the functions' proofs cite: `Rows` on the table as the code has it; `Letters` on its rows of one first
-- letter; of the table itself, `Once`; `Outcomes` on the statements themselves.
pub mod Rows
pub mod Letters
pub mod Once
pub mod Outcomes
