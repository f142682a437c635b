-- Laws that the crates above cite: `Eased` on eased amounts and mapped speeds, `Instances` on the definitions at
-- doubles and at speeds, `Outcomes` on the statements themselves.
pub mod Eased
pub mod Instances
pub mod Outcomes
