-- Any two outcomes that a statement allows coincide, for each public function of the module: `One` of the crate
-- `doubles` says it of the very clause that the check reads off the source. A clause says what the result is, or what
-- it tells, and no two results tell the same. RULES, one-outcome. Assumes nothing.
use Rattle.doubles.proofs.Outcomes.{One, equal}
use Rattle.judge.proofs.Outcomes.{same_told, one_told}
use Rattle.values.proofs.clock_speed.ClockSpeed.as_seconds_per_tick.Reads as as-seconds-per-tick
use Rattle.values.proofs.clock_speed.ClockSpeed.as_seconds_per_tick.Kinds as as-seconds-per-tick-kinds
use Rattle.values.proofs.clock_speed.ClockSpeed.as_ticks_per_second.Reads as as-ticks-per-second
use Rattle.values.proofs.clock_speed.ClockSpeed.as_ticks_per_second.Kinds as as-ticks-per-second-kinds
use Rattle.values.proofs.clock_speed.ClockSpeed.as_ticks_per_minute.Reads as as-ticks-per-minute
use Rattle.values.proofs.clock_speed.ClockSpeed.as_ticks_per_minute.Kinds as as-ticks-per-minute-kinds
use Rattle.values.proofs.clock_speed.ClockSpeed.read_in.Reads as read-in
use Rattle.values.proofs.clock_speed.ClockSpeed.read_in.Kinds as read-in-kinds
use Rattle.values.proofs.clock_speed.ClockSpeed.try_as_seconds_per_tick.Reads as try-as-seconds-per-tick
use Rattle.values.proofs.clock_speed.ClockSpeed.try_as_seconds_per_tick.Kinds as try-as-seconds-per-tick-kinds
use Rattle.values.proofs.clock_speed.ClockSpeed.try_as_ticks_per_second.Reads as try-as-ticks-per-second
use Rattle.values.proofs.clock_speed.ClockSpeed.try_as_ticks_per_second.Kinds as try-as-ticks-per-second-kinds
use Rattle.values.proofs.clock_speed.ClockSpeed.try_as_ticks_per_minute.Reads as try-as-ticks-per-minute
use Rattle.values.proofs.clock_speed.ClockSpeed.try_as_ticks_per_minute.Kinds as try-as-ticks-per-minute-kinds
use Rattle.values.proofs.clock_speed.ClockSpeedTweenable.interpolate.Reads as interpolate
use Rattle.values.proofs.clock_speed.ClockSpeedTweenable.interpolate.Kinds as interpolate-kinds
use Rattle.values.proofs.clock_speed.ClockSpeedTweenable.faults.Reads as faults
use Rattle.values.proofs.clock_speed.ClockSpeedTweenable.faults.Kinds as faults-kinds
use Rattle.values.proofs.clock_speed.ClockSpeedTweenable.end_faults.Reads as end-faults
use Rattle.values.proofs.clock_speed.ClockSpeedTweenable.end_faults.Kinds as end-faults-kinds
use Rattle.values.proofs.clock_speed.ClockSpeedTweenable.read_faults.Reads as read-faults
use Rattle.values.proofs.clock_speed.ClockSpeedTweenable.read_faults.Kinds as read-faults-kinds

pub one_as_seconds_per_tick : One 0 as-seconds-per-tick-kinds.ps as-seconds-per-tick-kinds.r as-seconds-per-tick.Post
one_as_seconds_per_tick κs a x y s t = equal

pub one_as_ticks_per_second : One 0 as-ticks-per-second-kinds.ps as-ticks-per-second-kinds.r as-ticks-per-second.Post
one_as_ticks_per_second κs a x y s t = equal

pub one_as_ticks_per_minute : One 0 as-ticks-per-minute-kinds.ps as-ticks-per-minute-kinds.r as-ticks-per-minute.Post
one_as_ticks_per_minute κs a x y s t = equal

pub one_read_in : One 0 read-in-kinds.ps read-in-kinds.r read-in.Post
one_read_in κs a x y s t = equal

pub one_try_as_seconds_per_tick : One 0 try-as-seconds-per-tick-kinds.ps try-as-seconds-per-tick-kinds.r try-as-seconds-per-tick.Post
one_try_as_seconds_per_tick κs a x y s t = one_told same_told x y

pub one_try_as_ticks_per_second : One 0 try-as-ticks-per-second-kinds.ps try-as-ticks-per-second-kinds.r try-as-ticks-per-second.Post
one_try_as_ticks_per_second κs a x y s t = one_told same_told x y

pub one_try_as_ticks_per_minute : One 0 try-as-ticks-per-minute-kinds.ps try-as-ticks-per-minute-kinds.r try-as-ticks-per-minute.Post
one_try_as_ticks_per_minute κs a x y s t = one_told same_told x y

pub one_interpolate : One 0 interpolate-kinds.ps interpolate-kinds.r interpolate.Post
one_interpolate κs a x y s t = equal

pub one_faults : One 0 faults-kinds.ps faults-kinds.r faults.Post
one_faults κs a x y s t = equal

pub one_end_faults : One 0 end-faults-kinds.ps end-faults-kinds.r end-faults.Post
one_end_faults κs a x y s t = equal

pub one_read_faults : One 0 read-faults-kinds.ps read-faults-kinds.r read-faults.Post
one_read_faults κs a x y s t = equal
