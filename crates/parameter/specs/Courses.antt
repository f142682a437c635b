-- Document 01, "parameter.rs": the timing of a tween, for parameters of both kinds and for tweeners: RULES, parameter.
-- Assumes nothing.
use Rattle.std.specs.Prelude.{Bool, true, false, cond, eqb, Float}
use Rattle.std.specs.Float.{binary64}
use Rattle.std.specs.Float.Ieee.{add, le}
use Rattle.doubles.specs.Doubles.{zero_f}
use Rattle.times.specs.Durations.{seconds_of}
use Rattle.times.specs.Starts.{shorter_by}
use Rattle.times.specs.declared.start_time.StartTime.{StartTime}
use Rattle.times.specs.declared.start_time.StartTime.TheVariants.{Immediate, Delayed, At}
use Rattle.times.specs.declared.start_time.When.{When}
use Rattle.times.specs.declared.start_time.When.TheVariants.{Now, Later, Never}
use Rattle.times.specs.Easings.{tween_value_of}
use Rattle.times.specs.declared.tween.Tween.{Tween}
use Rattle.parameter.specs.declared.course.Course.{Course}
use Rattle.parameter.specs.declared.course.Stepped.{Stepped}
use Rattle.parameter.specs.declared.course.Stepped.TheVariants.{Waits, Goes, Ends}

abbrev pub new_course : Tween → Course
new_course t = record { tween = t; time = zero_f }

abbrev pub is_now : When → Bool
is_now Now = true
is_now Later = false
is_now Never = false

-- the test of every update, of a tween that has begun too; a clock time is asked of the clocks, and a delay passes
-- only where nothing of it was left before: RULES, start-test and delay-at-zero
abbrev pub started_of : StartTime → When → Bool
started_of Immediate w = true
started_of (Delayed n) w = eqb n 0
started_of (At t) w = is_now w

-- a start that did not pass: a delay is shorter, and a clock time stays, though its clock may never come:
-- RULES, delay-update and wait
abbrev pub waited_of : StartTime → Float → StartTime
waited_of Immediate dt = Immediate
waited_of (Delayed n) dt = Delayed (shorter_by dt n)
waited_of (At t) dt = At t

-- a course that waits on: its time stands
abbrev pub waits : Course → Float → Course
waits c dt = record {
  tween = record { start_time = waited_of c.tween.start_time dt; duration = c.tween.duration; easing = c.tween.easing };
  time = c.time;
}

-- over, once its time is not less than its duration: RULES, end
abbrev pub goes : Course → Float → Stepped
goes c time = cond (le (seconds_of c.tween.duration) time) Ends (Goes (record { tween = c.tween; time = time }))

-- where the test passes dt joins the time: RULES, step
unfoldable pub step_of : Course → Float → When → Stepped
step_of c dt w = cond (started_of c.tween.start_time w) (goes c (add binary64 c.time dt)) (Waits (waits c dt))

abbrev pub amount_at : Course → Float
amount_at c = tween_value_of c.tween c.time
