-- The laws on calls, and what they rest on apart, in `lemmas`: `Refusals` on what a refusal leaves, `Lives` on ids over
-- runs of calls, `Issued` on those that a run gave out, `Apart` on entries that a call does not act on, `Reached` on
-- every station that calls can reach.
pub mod lemmas
pub mod Refusals
pub mod Lives
pub mod Issued
pub mod Apart
pub mod Reached
