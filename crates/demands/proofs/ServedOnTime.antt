-- Demand 3, over every sequence of calls on the station: a started clock keeps the exact sum of its advances, and a
-- parameter that waits for it begins on the update whose sum reaches what it waits for. 01, "How far each statement
-- binds". RULES, served. Assumes nothing.
use Prim.Native.Nat.{ℕ, ◌^◌}
use native.Mathlib.Nat.{zero-add}
use mathlib.Core.Path.{◌≡◌, ap, ◌∙◌}
use mathlib.Core.Bool.{false}
use mathlib.Core.List.{List}
use lib.Ieee.{Float}
use Rattle.judge.specs.Judge.{bad_fraction}
use Rattle.times.specs.Times.{place_at}
use Rattle.times.specs.declared.time.ClockId.{ClockId}
use Rattle.times.proofs.time.Places.{Fraction, fraction, not_refused}
use Rattle.values.specs.Speeds.{speed_tweens}
use Rattle.values.specs.Tweenables.{Tweens, float_tweens}
use Rattle.parameter.specs.Parameters.{try_set_of}
use Rattle.clock.specs.OneClock.{position_of}
use Rattle.clock_table.specs.ClockTables.{time_of, clock_time_of}
use Rattle.station.specs.declared.Station.{Station}
use Rattle.laws.specs.Sound.{Double}
use Rattle.laws.specs.SoundStation.{All}
use Rattle.laws.proofs.lemmas.Entries.{names_read}
use Rattle.demands.specs.Events.{Event, after_events, advances_of, total, sums_from, dts_of, first_pass}
use Rattle.demands.specs.Kinds.{Progress, progress_of, progress_by_sums}
use Rattle.demands.specs.Served.{Fresh, started, Kept, Grid, Run, Stands, awaited, OnceSet, Served}
use Rattle.demands.proofs.lemmas.Courses.{run_course, run_progress}
use Rattle.demands.proofs.lemmas.Going.{Going, start_goes}
use Rattle.demands.proofs.lemmas.Runs.{run_goes, run_tests, first_same}
use Rattle.demands.proofs.lemmas.Shapes.{sets}
use Rattle.demands.proofs.lemmas.Timing.{set_waits}

-- the time that is told is where the clock stands
stands : (st : Station) (id : ClockId) (n : ℕ) → Going st id n → Stands st id n
unfolding clock_time_of
stands st id n g = record {
  time = time_of id g.clock;
  told = names_read st.clocks id g.clock g.names (time_of id);
  fraction = not_refused (position_of g.clock.state).fraction g.standing.part (2 ^ 32) g.standing.parts g.standing.short;
  place = g.standing.place;
}

-- The clock's time is the sum of its advances, with nothing lost, wherever a run is cut off: RULES, exact-sum. No
-- update of a parameter is asked for. The advance is read off the speed that the frame leaves, so no program keeps
-- another sum and meets it. A program that refuses every frame meets it, since it has no advance; `accepted_exactly` of
-- `Exactly` rules that one out.
pub summed : (st : Station) (id : ClockId) (es : List Event) → Fresh st id → Kept id es → All Grid (advances_of id (started st id) es) → Stands (after_events (started st id) es) id (total (advances_of id (started st id) es))
summed st id es f k a = rw zero-add at (stands (after_events (started st id) es) id _ (run_goes id (started st id) 0 es (start_goes st id f) k a))

module _ {st : Station} {id : ClockId} {es : List Event} (r : Run st id es) (tick : ℕ) (g : Float) (F : Fraction g) where
  -- a parameter of any kind, from its accepted set on
  once_set : {T : Type 0} (k : Tweens T) → OnceSet k (started st id) id es tick g
  once_set k p v w s a =
      let b = start_goes st id r.fresh in
      let q = (try_set_of k p v w).parameter in
      let l = set_waits k (awaited id tick g) w s p v a in
      let c = run_course k id tick g F w s (started st id) 0 q es b r.kept r.grid l in
      record {
        course = c;
        times =
            ap progress_of c ∙ run_progress k id tick g F w s (started st id) 0 q es false b r.kept r.grid l r.ordered
            ∙ ap (λ (q : Progress). progress_by_sums (place_at tick g) q (sums_from 0 (advances_of id (started st id) es)) (dts_of es)) (sets k p v w a).0;
      }

-- ---- the demand

-- What is asked, `Run st id es` (RULES, run and grid):
--   `fresh`    The id lives in one of the 16 slots, its clock has not started, and the run `es` begins behind the call
--              that starts it. `FreshClocks` shows that every clock that was added and neither started nor removed
--              since is such a one.
--   `kept`     No call of the run stops, resets or removes this id. Every other call is free, accepted or refused:
--              adds, removals, starts, stops, resets and speeds of other clocks, a new speed or a second start of this
--              one, modulators and links, frames.
--   `grid`     Each advance is a multiple of 2^-32 in 0..65,536: asked of those that the run's own accepted frames
--              make, and of no other number.
--   `ordered`  Behind each accepted frame comes one accepted update of the parameter, and none before the first of
--              them. A refused update may stand anywhere. A caller who updates before the first frame, or twice, does
--              not meet it.
-- `tick` is any number, and g any double that a start time may have: 0 or more, below 1, not -0.0. The set of `floats`
-- and `speeds` that tells the parameter to wait reads nothing of the station, so it may come at any time before the
-- first update. The run has no event for a second set.
--
-- What then holds, `Served st id es tick g` (RULES, served):
--   `sum`      The clock's time is the exact sum of its advances, as the call for it tells. `summed` says it wherever a
--              run is cut off.
--   `tests`    The start test at the k-th accepted update is whether the sum of the first k advances reaches tick and
--              fraction.
--   `first`    So the first that passes is the first whose sum reaches them, and where no sum does none passes.
--   `floats`, `speeds`  The same of the parameter itself, of either kind, from any value to any value: `course` gives
--                       each answer whole, with no clock asked, and `times` the tween's time, which stands at 0 until
--                       that update and gains dt from it on. Its updates see the station as it stands then: a caller
--                       who updates by an `Info` from before the frame has another course.
-- `scaled` is a double's value times 2^1074, and `scaled_value` of `Scaled` in `doubles` shows that it loses nothing.
--
-- Which wrong programs it rules out: one that drops the awaited fraction, by `tests` and `first`; one that ignores the
-- start test, or begins an update early or late, by `times`, whose step is written apart from the code's. A first
-- passing with dt 0 leaves no trace in the parameter; `tests` and `first` speak of it. A wrong value at the right time
-- is ruled out by the definitions that the entries' statements cite, not here.
--
-- What it does not say: anything of a clock with an advance off the grid, whose sums are rounded; of a run in which the
-- clock is stopped, reset or removed; that a frame is accepted; what value the parameter shows, which is the
-- definitions' own and, where it is linked, its modulator's; anything of the parameters that are inside the station (a
-- clock's speed, an LFO's, a tweener): they wait by the same start test, in mid-frame, and the theorem speaks of the
-- caller's own parameters.
pub served : {st : Station} {id : ClockId} {es : List Event} → Run st id es → (tick : ℕ) (g : Float) → Double g → bad_fraction g ≡ false → Served st id es tick g
served {st} {id} {es} r tick g D B =
    let F = fraction g D B in
    let t = run_tests id tick g F (started st id) 0 es false (start_goes st id r.fresh) r.kept r.grid r.ordered in
    record {
      sum = summed st id es r.fresh r.kept r.grid;
      tests = t;
      first = ap first_pass t ∙ first_same (place_at tick g) (sums_from 0 (advances_of id (started st id) es));
      floats = once_set r tick g F float_tweens;
      speeds = once_set r tick g F speed_tweens;
    }
