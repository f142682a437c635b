-- The theorems that the README leads to, and what they rest on apart, in `lemmas`.
-- Demand 1: `Exactly` has the number of every call, and `Refused` what a refusal hands back. Demand 2: `Useful` rules
-- out four useless programs. Demand 3: `ServedOnTime` has the theorem, `FreshClocks` where a fresh clock comes from,
-- `Witness` one run that meets all that is asked. `Log` has what
-- the two numbers of an id say, `Absent` who waits for one that does not live, `Morning` is on names that cannot be
-- shared, `NoNan` on a clock that no NaN stops.
pub mod lemmas
pub mod Exactly
pub mod Refused
pub mod Useful
pub mod ServedOnTime
pub mod FreshClocks
mod Witness
pub mod Log
pub mod Absent
pub mod Morning
pub mod NoNan
