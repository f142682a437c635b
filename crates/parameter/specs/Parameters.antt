-- Document 01, "parameter.rs": how a parameter is made, set and updated, of what can be tweened. Assumes nothing.
use Rattle.std.specs.Prelude.{ℕ, Bool, true, false, cond, eqb, Float, Option, None, Some, Result, Ok, Err}
use Rattle.judge.specs.Answer.{Answer, accepted, told, number_told, number_of_refusal}
use Rattle.judge.specs.Judge.{both_faults, dt_faults, first_fault, decided, judged}
use Rattle.judge.specs.declared.Faults.{Faults}
use Rattle.judge.specs.declared.Refusal.{Refusal}
use Rattle.times.specs.declared.start_time.When.{When}
use Rattle.times.specs.Easings.{tween_faults}
use Rattle.times.specs.declared.tween.Tween.{Tween}
use Rattle.values.specs.Tweenables.{Tweens}
use Rattle.values.specs.Values.{value_faults, raw_of}
use Rattle.values.specs.declared.value.Value.{Value}
use Rattle.values.specs.declared.value.Value.TheVariants.{Fixed, FromModulator}
use Rattle.parameter.specs.Courses.{new_course, step_of, amount_at}
use Rattle.parameter.specs.declared.course.Course.{Course}
use Rattle.parameter.specs.declared.course.Stepped.{Stepped}
use Rattle.parameter.specs.declared.course.Stepped.TheVariants.{Waits, Goes, Ends}
use Rattle.parameter.specs.declared.Tweening.{Tweening}
use Rattle.parameter.specs.declared.State.{State}
use Rattle.parameter.specs.declared.State.TheVariants as state
use Rattle.parameter.specs.declared.Parameter.{Parameter}

-- the parameter after a set: as it was, where the set was refused. The number is 0 where it was not
pub record Set (T : Type 0) : Type 0 where
  pub refused : ℕ
  pub parameter : Parameter T

-- a parameter after an update, and whether its tween just finished
pub record Updated (T : Type 0) : Type 0 where
  pub finished : Bool
  pub parameter : Parameter T

pub record Advanced (T : Type 0) : Type 0 where
  pub refused : ℕ
  pub finished : Bool
  pub parameter : Parameter T

-- what a set says, with the parameter that it leaves: RULES, answer
abbrev pub set_told : {T : Type 0} → Result Unit Refusal → Parameter T → Set T
set_told r p = record { refused = number_told (told r); parameter = p }

abbrev pub updated : {T : Type 0} → Bool → Parameter T → Updated T
updated f p = record { finished = f; parameter = p }

-- and what an update does
abbrev pub advanced_told : {T : Type 0} → Result Bool Refusal → Parameter T → Advanced T
advanced_told (Ok f) p = record { refused = 0; finished = f; parameter = p }
advanced_told (Err r) p = record { refused = number_of_refusal r; finished = false; parameter = p }

abbrev pub fixed_of : {T : Type 0} → Value T → Bool
fixed_of (Fixed x) = true
fixed_of (FromModulator i m) = false

-- what a new parameter shows, a linked one its default whatever its modulator shows: RULES, first-value
abbrev pub first_of : {T : Type 0} → Value T → T → T
first_of (Fixed x) d = x
first_of (FromModulator i m) d = d

abbrev pub new_of : {T : Type 0} → Value T → T → Parameter T
new_of v d = record { state = state.Idle v; raw = first_of v d; stagnant = fixed_of v }

unfoldable pub try_new_of : {T : Type 0} → Tweens T → Value T → T → Answer (Parameter T)
try_new_of k v d = judged (both_faults (value_faults k v) (k.wrong d)) (accepted (new_of v d))

-- a tween from the present value, at time 0: RULES, set
abbrev pub set_of : {T : Type 0} → Parameter T → Value T → Tween → Parameter T
set_of p v t = record {
  state = state.Tweening (record { start = p.raw; target = v; course = new_course t });
  raw = p.raw;
  stagnant = false;
}

-- what is wrong with a target and a tween
abbrev pub target_faults : {T : Type 0} → Tweens T → Value T → Tween → Faults
target_faults k v t = both_faults (value_faults k v) (tween_faults t)

-- a value of the target's unit; a mapping's two ends have the same one, or are refused for it: RULES, speed-mapping
abbrev pub target_unit : {T : Type 0} → Value T → T
target_unit (Fixed x) = x
target_unit (FromModulator i m) = m.out_hi

-- BAD_SPEED too, where the present speed cannot be read in the target's unit: RULES, bad-reading. The present value of
-- a float can be tweened to any other
abbrev pub set_faults : {T : Type 0} → Tweens T → Parameter T → Value T → Tween → Faults
set_faults k p v t = both_faults (target_faults k v t) (k.unreadable p.raw (target_unit v))

-- a refused set leaves the parameter: RULES, refusal
unfoldable pub try_set_of : {T : Type 0} → Tweens T → Parameter T → Value T → Tween → Set T
try_set_of k p v t =
    decided (first_fault (set_faults k p v t))
    (record { refused = 0; parameter = set_of p v t })
    (λ n. record { refused = n; parameter = p })

-- with no modulator, the value stays: RULES, missing-modulator
abbrev pub or_last : {T : Type 0} → Option T → T → T
or_last (Some x) last = x
or_last None last = last

abbrev pub settled_of : {T : Type 0} → Tweens T → Value T → Option Float → T → T
settled_of k v i last = or_last (raw_of k v i) last

-- between the start and what the target shows, at the tween's time: RULES, under-way
abbrev pub towards : {T : Type 0} → Tweens T → T → Course → Option T → T → T
towards k start c (Some x) last = k.between start x (amount_at c)
towards k start c None last = last

-- no way between for a tween of no length: RULES, zero-duration
abbrev pub mixed_of : {T : Type 0} → Tweens T → Tweening T → Course → Option Float → T → T
mixed_of k t c i last = cond (eqb c.tween.duration 0) last (towards k t.start c (raw_of k t.target i) last)

abbrev pub idle_of : {T : Type 0} → Tweens T → Value T → Option Float → T → Updated T
idle_of k v i last = record { finished = false; parameter = record { state = state.Idle v; raw = settled_of k v i last; stagnant = false } }

-- not over; it waits or goes on: RULES, under-way
abbrev pub under_way_of : {T : Type 0} → Tweens T → Tweening T → Course → Option Float → T → Updated T
under_way_of k t c i last = record {
  finished = false;
  parameter = record {
    state = state.Tweening (record { start = t.start; target = t.target; course = c });
    raw = mixed_of k t c i last;
    stagnant = false;
  };
}

-- over, at rest at the target's own value; the answer says so: RULES, end
abbrev pub ended_of : {T : Type 0} → Tweens T → Value T → Option Float → T → Updated T
ended_of k v i last = record { finished = true; parameter = record { state = state.Idle v; raw = settled_of k v i last; stagnant = fixed_of v } }

abbrev pub by_step : {T : Type 0} → Tweens T → Tweening T → Stepped → Option Float → T → Updated T
by_step k t (Waits c) i last = under_way_of k t c i last
by_step k t (Goes c) i last = under_way_of k t c i last
by_step k t Ends i last = ended_of k t.target i last

unfoldable pub tweened_of : {T : Type 0} → Tweens T → Tweening T → Float → When → Option Float → T → Updated T
tweened_of k t dt w i last = by_step k t (step_of t.course dt w) i last

abbrev pub by_state : {T : Type 0} → Tweens T → State T → Float → When → Option Float → T → Updated T
by_state k (state.Idle v) dt w i last = idle_of k v i last
by_state k (state.Tweening t) dt w i last = tweened_of k t dt w i last

-- an update that sees w of its clock and i of its modulator; a fixed value at rest has nothing to update:
-- RULES, at-rest
unfoldable pub update_of : {T : Type 0} → Tweens T → Parameter T → Float → When → Option Float → Updated T
update_of k p dt w i = cond p.stagnant (record { finished = false; parameter = p }) (by_state k p.state dt w i p.raw)

abbrev pub advanced : {T : Type 0} → Updated T → Advanced T
advanced u = record { refused = 0; finished = u.finished; parameter = u.parameter }

unfoldable pub try_update_of : {T : Type 0} → Tweens T → Parameter T → Float → When → Option Float → Advanced T
try_update_of k p dt w i =
    decided (first_fault (dt_faults dt))
    (advanced (update_of k p dt w i))
    (λ n. record { refused = n; finished = false; parameter = p })
