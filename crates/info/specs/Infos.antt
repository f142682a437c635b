-- Document 01, "info.rs, part": what is seen of clocks and modulators, and what is asked of it. Assumes nothing.
use Rattle.std.specs.declared.cmp.Ordering.{Ordering}
use Rattle.std.specs.declared.cmp.Ordering.TheVariants.{Less, Equal, Greater}
use Rattle.std.specs.Prelude.{ℕ, Bool, true, false, ◌&&◌, cond, List, Float, Option, None, Some}
use Rattle.ids.specs.Keys.{find_of}
use Rattle.ids.specs.Lists.{read_at}
use Rattle.judge.specs.Answer.{Answer, accepted, refused}
use Rattle.judge.specs.Judge.{judged}
use Rattle.times.specs.Starts.{try_update_of}
use Rattle.times.specs.Times.{time_at, clock_time_faults, order_of}
use Rattle.times.specs.declared.time.ClockTime.{ClockTime}
use Rattle.times.specs.declared.start_time.StartTime.{StartTime}
use Rattle.times.specs.declared.start_time.StartTime.TheVariants.{Immediate, Delayed, At}
use Rattle.times.specs.declared.start_time.When.{When}
use Rattle.times.specs.declared.start_time.When.TheVariants.{Now, Later, Never}
use Rattle.times.specs.declared.start_time.Waited.{Waited}
use Rattle.values.specs.Tweenables.{Tweens}
use Rattle.values.specs.Values.{value_faults, raw_of}
use Rattle.values.specs.declared.value.ModulatorId.{ModulatorId}
use Rattle.values.specs.declared.value.Value.{Value}
use Rattle.values.specs.declared.value.Value.TheVariants.{Fixed, FromModulator}
use Rattle.clock.specs.declared.ClockInfo.{ClockInfo}
use Rattle.info.specs.declared.info.Info.{Info}

-- ---- clocks

-- whether a clock has come to a time of it, by ticks and fraction: RULES, now
abbrev pub at_or_past : Option Ordering → Bool
at_or_past (Some Less) = false
at_or_past (Some Equal) = true
at_or_past (Some Greater) = true
at_or_past None = false

abbrev pub reached_of : ClockInfo → ClockTime → Bool
reached_of c t = at_or_past (order_of (time_at t.clock c.ticks c.fraction) t)

-- of a clock that lives, now where it ticks and has come there, else later: RULES, now and later
abbrev pub due_of : ClockInfo → ClockTime → When
due_of c t = cond (c.ticking && reached_of c t) Now Later

-- never where no clock lives under that id: RULES, never
abbrev pub when_found : List ClockInfo → Answer ℕ → ClockTime → When
when_found cs (refused n) t = Never
when_found cs (accepted i) t = read_at Never (λ c. due_of c t) cs i

unfoldable pub when_to_start_of : Info → ClockTime → When
when_to_start_of info t = when_found info.clocks (find_of info.clock_keys t.clock.slot t.clock.generation) t

-- ---- modulators

-- nothing where no modulator lives under that id: RULES, seen-modulator
abbrev pub value_found : List Float → Answer ℕ → Option Float
value_found xs (refused n) = None
value_found xs (accepted i) = read_at None (λ x. Some x) xs i

unfoldable pub modulator_value_of : Info → ModulatorId → Option Float
modulator_value_of info id = value_found info.values (find_of info.modulator_keys id.slot id.generation)

-- ---- what a start and a value ask

abbrev pub start_due_of : Info → StartTime → When
start_due_of info Immediate = Later
start_due_of info (Delayed n) = Later
start_due_of info (At t) = when_to_start_of info t

abbrev pub input_of : {T : Type 0} → Info → Value T → Option Float
input_of info (Fixed x) = None
input_of info (FromModulator id m) = modulator_value_of info id

-- ---- the calls; an id inside what is asked about may name nothing: RULES, free-ids

unfoldable pub try_when_to_start_of : Info → ClockTime → Answer When
try_when_to_start_of info t = judged (clock_time_faults t) (accepted (when_to_start_of info t))

unfoldable pub try_raw_in : {T : Type 0} → Tweens T → Info → Value T → Answer (Option T)
try_raw_in k info v = judged (value_faults k v) (accepted (raw_of k v (input_of info v)))

abbrev pub try_update_start_in : Info → StartTime → Float → Answer Waited
try_update_start_in info s dt = try_update_of s dt (start_due_of info s)
