-- `Parts` on which line comes next, `Outcomes` on the statement itself.
pub mod Parts
pub mod Outcomes
