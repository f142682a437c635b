-- Document 01, "Speeds": the speeds that a running clock can have, where its tween began in another unit: doubles,
-- none of them a NaN or negative, and no seconds per tick near zero: RULES, running-speeds. Assumes nothing.
use Rattle.std.specs.Prelude.{false, pos, negsuc, T, Float}
use Rattle.std.specs.Float.{fin, binary64}
use Rattle.std.specs.Float.Ieee.{fits}
use Rattle.doubles.specs.Doubles.{zero_f}
use Rattle.doubles.specs.Intervals.{Between}
use Rattle.values.specs.declared.clock_speed.ClockSpeed.{ClockSpeed}
use Rattle.values.specs.declared.clock_speed.ClockSpeed.TheVariants.{SecondsPerTick, TicksPerSecond, TicksPerMinute}

-- a double of the format, in a range up to 2 ^ 27
abbrev pub Runs : Float → Float → Type 0
Runs lo x = T (fits binary64 x) × Between lo x (fin false 1 (pos 27))

-- seconds per tick from lo on, ticks per second or per minute from zero on (-0.0 too)
abbrev pub Above : Float → ClockSpeed → Type 0
Above lo (SecondsPerTick x) = Runs lo x
Above lo (TicksPerSecond x) = Runs zero_f x
Above lo (TicksPerMinute x) = Runs zero_f x

-- from 2 ^ -27 on
abbrev pub Running : ClockSpeed → Type 0
Running s = Above (fin false 1 (negsuc 26)) s

-- from 2 ^ -21 on: the speeds that a tween may go towards
abbrev pub Reachable : ClockSpeed → Type 0
Reachable s = Above (fin false 1 (negsuc 20)) s

-- a speed's number
abbrev pub number_of : ClockSpeed → Float
number_of (SecondsPerTick x) = x
number_of (TicksPerSecond x) = x
number_of (TicksPerMinute x) = x
