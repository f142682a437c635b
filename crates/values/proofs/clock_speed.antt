-- Laws that the crates above cite: `Rates` on the speeds of a running clock, `Outcomes` on the statements themselves.
pub mod Rates
pub mod Outcomes
