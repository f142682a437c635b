-- What follows for a parameter that waits for a clock time, whatever its kind: an update asks for that time's start
-- test alone, and passes exactly where the test does. RULES, start-test. Assumes nothing.
use Prim.Native.Nat.{ℕ}
use mathlib.Core.Path.{◌≡◌, refl, ap, ◌∙◌}
use mathlib.Core.Bool.{Bool, true, false, cond}
use lib.Ieee.{Float, binary64, add, le}
use Rattle.std.specs.Prelude.{Option}
use Rattle.times.specs.Durations.{seconds_of}
use Rattle.judge.specs.Judge.{bad_dt}
use Rattle.times.specs.declared.time.ClockTime.{ClockTime}
use Rattle.times.specs.declared.start_time.StartTime.{StartTime}
use Rattle.times.specs.declared.start_time.StartTime.TheVariants.{At}
use Rattle.times.specs.declared.start_time.When.TheVariants.{Now, Later}
use Rattle.times.specs.declared.tween.Easing.{Easing}
use Rattle.times.specs.declared.tween.Tween.{Tween}
use Rattle.values.specs.Tweenables.{Tweens}
use Rattle.values.specs.declared.value.Value.{Value}
use Rattle.parameter.specs.Courses.{step_of}
use Rattle.parameter.specs.Parameters.{try_set_of, try_update_of}
use Rattle.parameter.specs.declared.course.Course.{Course}
use Rattle.parameter.specs.declared.course.Stepped.TheVariants.{Goes, Ends}
use Rattle.parameter.specs.declared.Parameter.{Parameter}
use Rattle.info.specs.Infos.{start_due_of, when_to_start_of}
use Rattle.info.specs.ParametersIn.{source_of, try_update_in}
use Rattle.info.specs.declared.info.Info.{Info}
use Rattle.demands.specs.Kinds.{Progress, resting, running, progress_in, passed}
use Rattle.demands.proofs.lemmas.Shapes.{step_progress, stepped, Asked, Awake, sees, refuses, steps, sets}

-- ---- a step

step_passes : (t : ClockTime) (s : StartTime) (d : ℕ) (e : Easing) (x dt : Float) (b : Bool) → s ≡ At t
    → let c : Course = record { tween = record { start_time = s; duration = d; easing = e }; time = x } in step_progress (step_of c dt (cond b Now Later)) ≡ passed b (running c) dt
unfolding step_of
step_passes t s d e x dt false h = rw h
step_passes t s d e x dt true h = rw h (go (le (seconds_of d) (add binary64 x dt)))
  where
    c : Course
    c = record { tween = record { start_time = At t; duration = d; easing = e }; time = add binary64 x dt }

    go : (b : Bool) → step_progress (cond b Ends (Goes c)) ≡ cond b resting (running c)
    go true = refl
    go false = refl

-- ---- a parameter with the tween w, which waits for t

module _ {T : Type 0} (k : Tweens T) (t : ClockTime) (w : Tween) (s : w.start_time ≡ At t) where
  abbrev Carries : Progress → Type 0
  Carries resting = Unit {0}
  Carries (running c) = c.tween ≡ w

  abbrev pub Waiting : Parameter T → Type 0
  Waiting p = Carries (progress_in p.state) × Awake p.stagnant (progress_in p.state)

  pub set_waits : (p : Parameter T) (v : Value T) → (try_set_of k p v w).refused ≡ 0 → Waiting (try_set_of k p v w).parameter
  set_waits p v a = let h = sets k p v w a in (rw h.0 refl, h.1)

  pub sees_time : (info : Info) (p : Parameter T) (dt : Float) → Waiting p → try_update_in k info p dt ≡ try_update_of k p dt (when_to_start_of info t) (source_of info p)
  sees_time info p dt h = sees k p info dt (when_to_start_of info t) (go (progress_in p.state) h.0)
    where
      go : (q : Progress) → Carries q → Asked info (when_to_start_of info t) q
      go resting e = tt
      go (running c) e = ap (λ (x : Tween). start_due_of info x.start_time) e ∙ ap (start_due_of info) s

  module _ (p : Parameter T) (dt : Float) (b : Bool) (i : Option Float) (h : Waiting p) where
    -- the parameter behind the update
    abbrev behind : Parameter T
    behind = (try_update_of k p dt (cond b Now Later) i).parameter

    pub passes : bad_dt dt ≡ false → progress_in behind.state ≡ passed b (progress_in p.state) dt
    passes a = (steps k p dt (cond b Now Later) i a h.1).0 ∙ go (progress_in p.state) h.0
      where
        go : (q : Progress) → Carries q → stepped q dt (cond b Now Later) ≡ passed b q dt
        go resting e = refl
        go (running c) e = step_passes t c.tween.start_time c.tween.duration c.tween.easing c.time dt b (ap (λ (x : Tween). x.start_time) e ∙ s)

    pub keeps : Waiting behind
    keeps = go (bad_dt dt) refl
      where
        -- the tween stays the one that was set
        same : (b : Bool) (q : Progress) → Carries q → Carries (passed b q dt)
        same b resting e = tt
        same false (running c) e = e
        same true (running c) e = ended (le (seconds_of c.tween.duration) (add binary64 c.time dt))
          where
            ended : (o : Bool) → Carries (cond o resting (running (record { tween = c.tween; time = add binary64 c.time dt })))
            ended true = tt
            ended false = e

        go : (n : Bool) → bad_dt dt ≡ n → Waiting behind
        go true e = rw (refuses k p dt (cond b Now Later) i e).1 h
        go false e = (rw (passes e) (same b (progress_in p.state) h.0), (steps k p dt (cond b Now Later) i e h.1).1)
