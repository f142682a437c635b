-- What the theorems rest on. For demand 1: `Asked` is the order of the numbers, and `Lookups`, `ByClock`,
-- `ByModulator`, `Lowest` (a frame) and `ByTime` have the number of each group of calls. For demand 3: `Exact` is
-- arithmetic on doubles of the grid; `Standing`, `Going` and `Due` are on one clock in a call; `Runs` and `Courses` are
-- the inductions over a run; `Shapes` is on what an update and a set make of a parameter's tween, and `Timing` on a
-- parameter that waits, of any kind both.
pub mod Asked
pub mod Lookups
pub mod ByClock
pub mod ByModulator
pub mod Lowest
pub mod ByTime
pub mod Exact
pub mod Standing
pub mod Going
pub mod Due
pub mod Runs
pub mod Shapes
pub mod Timing
pub mod Courses
