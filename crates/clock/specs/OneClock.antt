-- Document 01, "clock.rs": one clock, and its update. Assumes nothing.
use Rattle.std.specs.Prelude.{ℕ, Bool, true, false, ◌||◌, cond, pos, Float, Option, None, Some, Result, Ok, Err}
use Rattle.std.specs.Float.{fin, binary64}
use Rattle.std.specs.Float.Ieee.{add, mul, lt, le}
use Rattle.doubles.specs.Doubles.{zero_f, one_f}
use Rattle.values.specs.Speeds.{tps_of, speed_tweens}
use Rattle.values.specs.declared.clock_speed.ClockSpeed.{ClockSpeed}
use Rattle.values.specs.declared.clock_speed.ClockSpeed.TheVariants.{TicksPerMinute}
use Rattle.times.specs.declared.start_time.When.{When}
use Rattle.values.specs.declared.value.Value.{Value}
use Rattle.parameter.specs.Parameters.{new_of, update_of}
use Rattle.parameter.specs.declared.Parameter.{Parameter}
use Rattle.clock.specs.declared.ClockInfo.{ClockInfo}
use Rattle.judge.specs.Answer.{Answer, accepted, refused, is_refused, number_of_refusal}
use Rattle.judge.specs.Judge.{of_turn, no_faults, number_of, decided}
use Rattle.judge.specs.declared.Refusal.{Refusal}
use Rattle.ticks.specs.WholeTicks.{taken_of}
use Rattle.ticks.specs.declared.Position.{Position}
use Rattle.clock.specs.declared.ClockState.{ClockState}
use Rattle.clock.specs.declared.ClockState.TheVariants.{NotStarted, Started}
use Rattle.clock.specs.declared.Clock.{Clock}

-- a clock after its update, and the tick that it reported
pub record Ticked : Type 0 where
  pub clock : Clock
  pub report : Option ℕ

-- what a linked speed is before the first update: RULES, first-value
abbrev pub default_speed : ClockSpeed
default_speed = TicksPerMinute (fin false 15 (pos 3))

-- a clock as it is made, not ticking and not started: RULES, new-clock
abbrev pub new_clock : Value ClockSpeed → Clock
new_clock v = record { ticking = false; speed = new_of v default_speed; state = NotStarted }

-- where a clock stands; one that has not started is at the beginning: RULES, unstarted-clock
abbrev pub position_of : ClockState → Position
position_of NotStarted = record { ticks = 0; fraction = zero_f }
position_of (Started p) = p

-- what others see of it: RULES, info
abbrev pub info_of : Clock → ClockInfo
info_of c = record { ticking = c.ticking; ticks = (position_of c.state).ticks; fraction = (position_of c.state).fraction }

abbrev pub ticking_of : Bool → Clock → Clock
ticking_of b c = record { ticking = b; speed = c.speed; state = c.state }

abbrev pub sped_of : Parameter ClockSpeed → Clock → Clock
sped_of p c = record { ticking = c.ticking; speed = p; state = c.state }

-- back to not started, and nothing else: RULES, reset
abbrev pub reset_of : Clock → Clock
reset_of c = record { ticking = c.ticking; speed = c.speed; state = NotStarted }

abbrev pub fresh_of : ClockState → Bool
fresh_of NotStarted = true
fresh_of (Started p) = false

abbrev pub no_report : Option ℕ
no_report = None

-- the count in the state that is left, where there is something to report: RULES, tick-report
abbrev pub report_of : Bool → ℕ → Option ℕ
report_of told n = cond told (Some n) no_report

-- speed times dt, in ticks: RULES, advance
abbrev pub advance_of : Parameter ClockSpeed → Float → Float
advance_of p dt = mul binary64 (tps_of p.raw) dt

-- the advance on top of the fraction: RULES, advance
abbrev pub sum_of : Parameter ClockSpeed → ClockState → Float → Float
sum_of p s dt = add binary64 (position_of s).fraction (advance_of p dt)

-- the clock at a new time; it reports where it has just started, or took whole ticks: RULES, tick-report
abbrev pub moved_to : Parameter ClockSpeed → Bool → Position → Ticked
moved_to p told to = record { clock = record { ticking = true; speed = p; state = Started to }; report = report_of told to.ticks }

-- what an update says, by what it answers and the clock that it leaves
abbrev pub moved_told : Result (Option ℕ) Refusal → Clock → Answer Ticked
moved_told (Ok r) c = accepted (record { clock = c; report = r })
moved_told (Err r) c = refused (number_of_refusal r)

-- TOO_FAR, for more than 2^16 ticks at once: RULES, too-far
abbrev pub too_far_by : Parameter ClockSpeed → Float → Bool
too_far_by p dt = lt (fin false 1 (pos 16)) (advance_of p dt)

-- the clock at the time that its ticks came to
abbrev pub by_taken : Parameter ClockSpeed → Bool → Answer Position → Answer Ticked
by_taken p told (refused n) = refused n
by_taken p told (accepted to) = accepted (moved_to p told to)

-- by what is wrong with the turn, and the time that the ticks came to; TICKS_FULL where they came to none:
-- RULES, order and ticks-full
abbrev pub by_turn : Parameter ClockSpeed → Bool → Bool → Answer Position → Answer Ticked
by_turn p told far to = decided (number_of (of_turn no_faults far (is_refused to))) (by_taken p told to) refused

-- the turn of a clock that ticks, from the beginning where it has not started: RULES, first-update
unfoldable pub tick_of : Parameter ClockSpeed → ClockState → Float → Answer Ticked
tick_of p s dt = by_turn p (fresh_of s || le one_f (sum_of p s dt)) (too_far_by p dt) (taken_of (position_of s).ticks (sum_of p s dt))

-- the speed is updated first, and a clock that does not tick does no more: RULES, clock-update
unfoldable pub update_clock_of : Clock → Float → When → Option Float → Answer Ticked
update_clock_of c dt w i =
    cond c.ticking (tick_of (update_of speed_tweens c.speed dt w i).parameter c.state dt)
    (accepted (record { clock = sped_of (update_of speed_tweens c.speed dt w i).parameter c; report = no_report }))
