-- Four useless programs, each ruled out by a theorem of its name: three by calls on the fresh station, computed, and
-- the clock that only looks busy by demand 3's sum, over every run. 01, "How far each statement binds"; RULES,
-- useless-builds. Assumes nothing.
use Prim.Native.Nat.{ℕ, ◌+◌, ◌<◌}
use native.Mathlib.Nat.{zero-add}
use native.Mathlib.Omega.{arith}
use mathlib.Core.Path.{◌≡◌, refl, sym, ap, ◌∙◌}
use mathlib.Core.List.{List}
use lib.Ieee.{Float, add, sub, mul, lt, le, eq, to_unsigned}
use Rattle.doubles.specs.Doubles.{zero_f, one_f}
use Rattle.ids.specs.Keys.{free_of, lives_in, standing_of, find_of}
use Rattle.ids.specs.Lists.{read_at}
use Rattle.ticks.specs.WholeTicks.{room_for, taken_of}
use Rattle.judge.specs.Answer.{Answer, accepted, refused}
use Rattle.judge.specs.Judge.{number_of, first_fault}
use Rattle.values.specs.declared.clock_speed.ClockSpeed.TheVariants.{TicksPerSecond}
use Rattle.times.specs.Times.{time_at, place_at}
use Rattle.times.specs.declared.time.ClockId.{ClockId}
use Rattle.times.specs.declared.time.ClockTime.{ClockTime}
use Rattle.values.specs.declared.clock_speed.ClockSpeed.{ClockSpeed}
use Rattle.values.specs.declared.value.Value.{Value}
use Rattle.values.specs.declared.value.Value.TheVariants.{Fixed}
use Rattle.parameter.specs.Parameters.{update_of}
use Rattle.clock.specs.OneClock.{tick_of, update_clock_of}
use Rattle.clock_table.specs.ClockTables.{add_clock_of, tick_on_of, time_of, clock_time_of}
use Rattle.commands.specs.ClockCommands.{run_clock_of}
use Rattle.commands.specs.declared.clock_command.ClockCommand.TheVariants.{Add, Start}
use Rattle.station.specs.Frames.{modulator_turns, modulators_turned, clock_turns, clocks_turned, frame_of}
use Rattle.station.specs.Stations.{fresh_station, info_in}
use Rattle.station.specs.Turns.{turn_clock}
use Rattle.station.specs.declared.Station.{Station}
use Rattle.laws.specs.Calls.{clock, frame, after, call_number}
use Rattle.laws.specs.SoundStation.{All}
use Rattle.laws.proofs.lemmas.Entries.{names_read}
use Rattle.demands.specs.Events.{Event, after_events, advance_in, advances_of, total}
use Rattle.demands.specs.Served.{Fresh, started, Kept, Grid}
use Rattle.demands.proofs.lemmas.Going.{Going, call_goes, start_goes}
use Rattle.demands.proofs.lemmas.Runs.{run_goes}

-- one tick a second
abbrev pub one : Value ClockSpeed
one = Fixed (TicksPerSecond one_f)

-- the first clock of a station
abbrev pub first : ClockId
first = record { slot = 0; generation = 1 }

-- a fresh station with that clock, and once it was started
abbrev pub with_clock : Station
with_clock = after fresh_station (clock (Add one))

abbrev pub running : Station
running = after with_clock (clock (Start first))

-- Not every call is refused: an add, a start and a frame are accepted. A program that accepts these three alone meets
-- it; which calls are accepted, in general, `accepted_exactly` of `Exactly` says.
pub some_call_is_accepted : (call_number fresh_station (clock (Add one)) ≡ 0) × (call_number with_clock (clock (Start first)) ≡ 0) × (call_number running (frame one_f) ≡ 0)
unfolding number_of first_fault add sub mul lt le eq to_unsigned free_of lives_in standing_of find_of read_at room_for taken_of tick_of update_clock_of add_clock_of tick_on_of run_clock_of update_of info_in turn_clock modulator_turns modulators_turned clock_turns clocks_turned frame_of
some_call_is_accepted = (refl, refl, refl)

-- the clock's time, once it was started, and a frame of a second later
at_zero : clock_time_of running.clocks first ≡ accepted (time_at first 0 zero_f)
unfolding number_of first_fault lt le eq free_of lives_in standing_of find_of read_at add_clock_of tick_on_of clock_time_of run_clock_of
at_zero = refl

at_one : clock_time_of (after running (frame one_f)).clocks first ≡ accepted (time_at first 1 zero_f)
unfolding number_of first_fault add sub mul lt le eq to_unsigned free_of lives_in standing_of find_of read_at room_for taken_of tick_of update_clock_of add_clock_of tick_on_of clock_time_of run_clock_of update_of info_in turn_clock modulator_turns modulators_turned clock_turns clocks_turned frame_of
at_one = refl

abbrev ticks_in : Answer ClockTime → ℕ
ticks_in (accepted t) = t.ticks
ticks_in (refused n) = 0

-- Not every answer is the same: one question of one clock, before a frame and behind it. A program that is right in
-- this case alone meets it; what each call answers, in general, is its own definition, which its statement cites.
pub answers_differ : clock_time_of running.clocks first ≡ clock_time_of (after running (frame one_f)).clocks first → ⊥
answers_differ e = let z : ◌≡◌ {A = ℕ} 0 1 = ap ticks_in (sym at_zero ∙ e ∙ at_one) in omega arith

-- Not every frame leaves the station as it was: this one moves the clock by a tick. It does not say that every frame
-- changes something: one of a station at rest need not. A program whose other frames do nothing meets it; the statement
-- of `frame` and `a_clock_goes_on_moving` rule that one out.
pub a_frame_changes_something : after running (frame one_f) ≡ running → ⊥
a_frame_changes_something e = answers_differ (ap (λ (st : Station). clock_time_of st.clocks first) (sym e))

-- ---- a clock does not stop after its first frame

-- the clock of the id before and behind a call that leads from one station to the other: at the sum n of its advances,
-- and then at n and a
pub record Later (was is : Station) (id : ClockId) (n a : ℕ) : Type 0 where
  pub before : ClockTime
  pub told_before : clock_time_of was.clocks id ≡ accepted before
  pub sum : place_at before.ticks before.fraction ≡ n
  pub behind : ClockTime
  pub told_behind : clock_time_of is.clocks id ≡ accepted behind
  pub longer : place_at behind.ticks behind.fraction ≡ n + a
  pub by : place_at behind.ticks behind.fraction ≡ place_at before.ticks before.fraction + a
  pub later : place_at before.ticks before.fraction < place_at behind.ticks behind.fraction

further : (m n a : ℕ) → n ≡ m + a → 0 < a → m < n
further m n a e h = omega arith

gone_on : (s t : Station) (id : ClockId) (n a : ℕ) → Going s id n → Going t id (n + a) → 0 < a → Later s t id n a
unfolding clock_time_of
gone_on s t id n a x y h =
    let e : place_at (time_of id y.clock).ticks (time_of id y.clock).fraction ≡ place_at (time_of id x.clock).ticks (time_of id x.clock).fraction + a =
    y.standing.place ∙ ap (λ (m : ℕ). m + a) (sym x.standing.place) in
    record {
      before = time_of id x.clock;
      told_before = names_read s.clocks id x.clock x.names (time_of id);
      sum = x.standing.place;
      behind = time_of id y.clock;
      told_behind = names_read t.clocks id y.clock y.names (time_of id);
      longer = y.standing.place;
      by = e;
      later = further _ _ a e h;
    }

-- Behind any run as in demand 3 (a fresh clock, started behind `st`; `es` does not stop, reset or remove it; its
-- advances on the grid) one more frame with an advance on the grid and above 0 puts the clock strictly later, by
-- exactly the advance: RULES, useless-builds and exact-sum. It gives the exact distance after any run, so no clock that
-- only looks busy meets it. That the frame is accepted is not asked: a refused one has no advance, and so none above 0.
-- Nothing is said of a frame whose advance is 0, and no update of a parameter is asked for.
pub a_clock_goes_on_moving :
    (st : Station) (id : ClockId) (es : List Event) (dt : Float) → Fresh st id → Kept id es → All Grid (advances_of id (started st id) es)
    → All Grid (advance_in id (after_events (started st id) es) (frame dt)) → 0 < total (advance_in id (after_events (started st id) es) (frame dt))
    → Later (after_events (started st id) es) (after (after_events (started st id) es) (frame dt)) id (total (advances_of id (started st id) es)) (total (advance_in id (after_events (started st id) es) (frame dt)))
a_clock_goes_on_moving st id es dt f k g q h =
    let s = after_events (started st id) es in
    let n = total (advances_of id (started st id) es) in
    let x : Going s id n = rw zero-add at (run_goes id (started st id) 0 es (start_goes st id f) k g) in
    gone_on s (after s (frame dt)) id n (total (advance_in id s (frame dt))) x (call_goes s id n x (frame dt) refl q) h
