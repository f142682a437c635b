-- Laws that the functions' proofs and the crates above cite: `Opposite` on the cycle of `try_add_f64` and
-- `try_sub_f64`, `Shifts` on times that are moved, `Places` on a time as one whole number, `Less` and `Subtracted` on a
-- double that is taken off a time, `Orders` on the orders of std, `Outcomes` on the statements themselves.
pub mod Opposite
pub mod Shifts
pub mod Places
pub mod Less
pub mod Subtracted
pub mod Orders
pub mod Outcomes
