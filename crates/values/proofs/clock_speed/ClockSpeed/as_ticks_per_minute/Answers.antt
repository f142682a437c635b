-- `as_ticks_per_minute` meets its contract: each arm is the case of the definition that its variant names, with the
-- code's literals as the doubles of their bits. Assumes nothing.
use lib.Ieee.{of_bits}
use Rattle.values.proofs.clock_speed.ClockSpeed.as_ticks_per_minute.Goals as goal

pub returns-in-SecondsPerTick : goal.returns-in-SecondsPerTick
unfolding of_bits
returns-in-SecondsPerTick c = cc

pub returns-in-TicksPerSecond : goal.returns-in-TicksPerSecond
unfolding of_bits
returns-in-TicksPerSecond c = cc
