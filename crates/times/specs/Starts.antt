-- Document 01, "start_time.rs": a start time by itself, and how it is brought forward. Assumes nothing.
use Rattle.std.specs.Prelude.{ℕ, ◌-◌, Bool, true, false, cond, eqb, Float}
use Rattle.judge.specs.Answer.{Answer, accepted}
use Rattle.judge.specs.Judge.{no_faults, both_faults, dt_faults, span_faults, judged}
use Rattle.times.specs.Durations.{nanos_of}
use Rattle.times.specs.Times.{clock_time_faults}
use Rattle.judge.specs.declared.Faults.{Faults}
use Rattle.times.specs.declared.time.ClockTime.{ClockTime}
use Rattle.times.specs.declared.start_time.StartTime.{StartTime}
use Rattle.times.specs.declared.start_time.StartTime.TheVariants.{Immediate, Delayed, At}
use Rattle.times.specs.declared.start_time.When.{When}
use Rattle.times.specs.declared.start_time.When.TheVariants.{Now, Later, Never}
use Rattle.times.specs.declared.start_time.Waited.{Waited}

-- a delay is judged as a duration is, and a clock time as everywhere: RULES, start-time
abbrev pub start_faults : StartTime → Faults
start_faults Immediate = no_faults
start_faults (Delayed n) = span_faults n
start_faults (At t) = clock_time_faults t

-- a delay loses the nanoseconds of dt and stops at 0, which a difference of ℕ never passes: RULES, delay-update
abbrev pub shorter_by : Float → ℕ → ℕ
shorter_by dt n = n - nanos_of dt

-- what is left of a delay, Immediate at once where nothing is: RULES, delay-update
abbrev pub delay_of : ℕ → StartTime
delay_of n = cond (eqb n 0) Immediate (Delayed n)

abbrev pub waiting : Bool → StartTime → Waited
waiting n s = record { never = n; start = s }

-- a clock time by what its clock says; that it will never come is told here alone: RULES, start-time-update
abbrev pub awaited_of : ClockTime → When → Waited
awaited_of t Now = waiting false Immediate
awaited_of t Later = waiting false (At t)
awaited_of t Never = waiting true (At t)

unfoldable pub update_of : StartTime → Float → When → Waited
update_of Immediate dt w = waiting false Immediate
update_of (Delayed n) dt w = waiting false (delay_of (shorter_by dt n))
update_of (At t) dt w = awaited_of t w

unfoldable pub try_update_of : StartTime → Float → When → Answer Waited
try_update_of s dt w = judged (both_faults (dt_faults dt) (start_faults s)) (accepted (update_of s dt w))
