-- Laws that the crates above cite: `Places` on what a lookup and a search answer, `Entries` on what is made of the
-- entry found, `Names` on ids, `Standings` on what an id is to a table, `Outcomes` on the statements themselves.
-- `Searches` has what the proofs of `find` and `free` cite.
pub mod Places
pub mod Entries
pub mod Names
pub mod Standings
pub mod Outcomes
mod Searches
