-- Demand 3: the parameter that waits, of any kind; what its updates answer in a run, and what they would by the sums of
-- the advances alone. RULES, begins. Assumes nothing.
use Rattle.std.specs.Prelude.{ℕ, ◌+◌, Bool, true, false, cond, List, [], ◌∷◌, ◌++◌, eqb, leb, Float}
use Rattle.std.specs.Float.{binary64}
use Rattle.std.specs.Float.Ieee.{add, le}
use Rattle.times.specs.Durations.{seconds_of}
use Rattle.times.specs.declared.time.ClockId.{ClockId}
use Rattle.times.specs.declared.start_time.When.TheVariants.{Now, Later}
use Rattle.values.specs.Tweenables.{Tweens}
use Rattle.parameter.specs.Parameters.{Advanced, try_update_of}
use Rattle.parameter.specs.declared.course.Course.{Course}
use Rattle.parameter.specs.declared.State.{State}
use Rattle.parameter.specs.declared.State.TheVariants.{Idle, Tweening}
use Rattle.parameter.specs.declared.Parameter.{Parameter}
use Rattle.info.specs.ParametersIn.{source_of, try_update_in}
use Rattle.station.specs.Stations.{info_in}
use Rattle.station.specs.declared.Station.{Station}
use Rattle.laws.specs.Calls.{after}
use Rattle.demands.specs.Events.{Event, call, update, advance_in, total}

-- the tween under way, with its time; or none
pub data Progress : Type 0 where
  resting : Progress
  running : Course → Progress

abbrev pub progress_in : {T : Type 0} → State T → Progress
progress_in (Idle v) = resting
progress_in (Tweening t) = running t.course

-- of any kind, by what it is to be between two of its values
module _ {T : Type 0} (k : Tweens T) where
  -- what the updates answer, each with the station as it stands then
  unfoldable pub course_of : Station → Parameter T → List Event → List (Advanced T)
  course_of st p [] = []
  course_of st p (call c ∷ es) = course_of (after st c) p es
  course_of st p (update dt ∷ es) = let r = try_update_in k (info_in st) p dt in r ∷ course_of st r.parameter es

  -- the same updates where no clock is asked: the start test is that n, the sum of the advances so far, reaches w
  unfoldable pub course_by_sum : ClockId → ℕ → ℕ → Station → Parameter T → List Event → List (Advanced T)
  course_by_sum id w n st p [] = []
  course_by_sum id w n st p (call c ∷ es) = course_by_sum id w (n + total (advance_in id st c)) (after st c) p es
  course_by_sum id w n st p (update dt ∷ es) =
      let r = try_update_of k p dt (cond (leb w n) Now Later) (source_of (info_in st) p) in
      r ∷ course_by_sum id w n st r.parameter es

-- the tween after each accepted update
unfoldable pub progress_of : {T : Type 0} → List (Advanced T) → List Progress
progress_of [] = []
progress_of (r ∷ rs) = cond (eqb r.refused 0) (progress_in r.parameter.state ∷ []) [] ++ progress_of rs

-- what one test makes of a tween, written apart from the code's own step: one that passes adds dt to the time, and ends
-- the tween where its duration is reached: RULES, step and end
abbrev pub passed : Bool → Progress → Float → Progress
passed b resting dt = resting
passed false (running c) dt = running c
passed true (running c) dt =
    let time = add binary64 c.time dt in
    cond (le (seconds_of c.tween.duration) time) resting (running (record { tween = c.tween; time = time }))

-- a tween's progress where the updates pass whose sum reaches w
unfoldable pub progress_by_sums : ℕ → Progress → List ℕ → List Float → List Progress
progress_by_sums w q [] dts = []
progress_by_sums w q (n ∷ ns) [] = []
progress_by_sums w q (n ∷ ns) (dt ∷ dts) = let r = passed (leb w n) q dt in r ∷ progress_by_sums w r ns dts
