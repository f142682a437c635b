-- `as_seconds_per_tick` meets its contract: each arm is the case of the definition that its variant names, with the
-- code's literals as the doubles of their bits. Assumes nothing.
use lib.Ieee.{of_bits}
use Rattle.values.proofs.clock_speed.ClockSpeed.as_seconds_per_tick.Goals as goal

pub returns-in-TicksPerMinute : goal.returns-in-TicksPerMinute
unfolding of_bits
returns-in-TicksPerMinute c = cc
