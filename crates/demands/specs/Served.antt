-- Demand 3, in two records: what is asked of a run (`Run`), and what then holds (`Served`). 01, "How far each statement
-- binds". RULES, served. Assumes nothing.
use Rattle.std.specs.Prelude.{ℕ, ◌*◌, ◌%◌, ◌^◌, ◌≤◌, ◌<◌, ◌≡◌, Bool, true, false, ◌&&◌, List, [], ◌∷◌, map, eqb, leb, Float}
use Rattle.doubles.specs.Doubles.{finite_of, sign_of, scaled}
use Rattle.judge.specs.Answer.{accepted}
use Rattle.judge.specs.Judge.{bad_fraction}
use Rattle.times.specs.Times.{time_at, place_at}
use Rattle.times.specs.declared.time.ClockId.{ClockId}
use Rattle.times.specs.declared.time.ClockTime.{ClockTime}
use Rattle.times.specs.declared.start_time.StartTime.TheVariants.{At}
use Rattle.times.specs.declared.tween.Tween.{Tween}
use Rattle.values.specs.Speeds.{speed_tweens}
use Rattle.values.specs.Tweenables.{Tweens, float_tweens}
use Rattle.values.specs.declared.value.Value.{Value}
use Rattle.parameter.specs.Courses.{new_course}
use Rattle.parameter.specs.Parameters.{try_set_of}
use Rattle.parameter.specs.declared.Parameter.{Parameter}
use Rattle.clock_table.specs.ClockTables.{clock_time_of}
use Rattle.clock.specs.declared.Clock.{Clock}
use Rattle.clock.specs.declared.ClockState.TheVariants.{NotStarted}
use Rattle.commands.specs.declared.clock_command.ClockCommand.{ClockCommand}
use Rattle.commands.specs.declared.clock_command.ClockCommand.TheVariants as command
use Rattle.station.specs.declared.Station.{Station}
use Rattle.laws.specs.Calls.{Call, clock, modulator, frame, after}
use Rattle.laws.specs.SoundStation.{All}
use Rattle.demands.specs.Kinds.{running, course_of, course_by_sum, progress_of, progress_by_sums}
use Rattle.demands.specs.Events.{Event, call, update, after_events, clock_in, advances_of, total, sums_from, in_order, dts_of, tests_of, first_pass, first_reach}

-- ---- what is asked

-- a fresh clock: its id, a slot below 16 and a generation, lives, and the clock is not started: RULES, run
pub record Fresh (st : Station) (id : ClockId) : Type 0 where
  pub slot : id.slot < 16
  pub clock : Clock
  pub lives : clock_in st id ≡ accepted clock
  pub unstarted : clock.state ≡ NotStarted

-- the run begins behind the call that starts the clock
abbrev pub started : Station → ClockId → Station
started st id = after st (clock (command.Start id))

abbrev pub same_id : ClockId → ClockId → Bool
same_id a b = eqb a.slot b.slot && eqb a.generation b.generation

abbrev pub halts_by : ClockId → ClockCommand → Bool
halts_by id (command.Add v) = false
halts_by id (command.Remove j) = same_id j id
halts_by id (command.Start j) = false
halts_by id (command.Stop j) = same_id j id
halts_by id (command.Reset j) = same_id j id
halts_by id (command.SetSpeed j v w) = false
halts_by id (command.Time j) = false
halts_by id (command.Ticking j) = false
halts_by id (command.Speed j) = false

abbrev pub halts : ClockId → Call → Bool
halts id (clock c) = halts_by id c
halts id (modulator c) = false
halts id (frame dt) = false

-- no call of the run stops, resets or removes the clock: RULES, run
abbrev pub Kept : ClockId → List Event → Type 0
Kept id [] = Unit {0}
Kept id (call c ∷ es) = (halts id c ≡ false) × Kept id es
Kept id (update dt ∷ es) = Kept id es

-- an advance on the grid, in units of 2^-1074: the grid's step is 2^1042 of them. A speed of -0.0 makes an advance of
-- -0.0, which is 0 too: RULES, grid
pub record Grid (x : Float) : Type 0 where
  pub finite : finite_of x ≡ true
  pub least : sign_of x ≡ true → scaled x ≡ 0
  pub multiple : scaled x % 2 ^ 1042 ≡ 0
  pub most : scaled x ≤ 65536 * 2 ^ 1074

-- the four together: RULES, run
pub record Run (st : Station) (id : ClockId) (es : List Event) : Type 0 where
  pub fresh : Fresh st id
  pub kept : Kept id es
  pub grid : All Grid (advances_of id (started st id) es)
  pub ordered : in_order false (started st id) es ≡ true

-- ---- what then holds

-- the clock stands at the sum n: the call for its time is accepted, and tells it; the fraction is 0 or more and below
-- 1: RULES, exact-sum
pub record Stands (st : Station) (id : ClockId) (n : ℕ) : Type 0 where
  pub time : ClockTime
  pub told : clock_time_of st.clocks id ≡ accepted time
  pub fraction : bad_fraction time.fraction ≡ false
  pub place : place_at time.ticks time.fraction ≡ n

-- what is awaited: tick and fraction of this clock
abbrev pub awaited : ClockId → ℕ → Float → ClockTime
awaited id tick g = time_at id tick g

-- of a parameter of any kind with the tween w, which waits at time 0
module _ {T : Type 0} (k : Tweens T) (st : Station) (id : ClockId) (es : List Event) (tick : ℕ) (g : Float) where
  pub record Begins (p : Parameter T) (w : Tween) : Type 0 where
    -- every answer of its updates is the one that the sums lead to, the refused and those after its end too
    pub course : course_of k st p es ≡ course_by_sum k id (place_at tick g) 0 st p es
    -- it begins where the sum first reaches what it waits for: until then its time stands at 0, and from that update on
    -- each adds its dt: RULES, begins
    pub times : progress_of (course_of k st p es) ≡ progress_by_sums (place_at tick g) (running (new_course w)) (sums_from 0 (advances_of id st es)) (dts_of es)

  -- a parameter of this kind, from any value, that an accepted set told to wait for that tick and fraction
  abbrev pub OnceSet : Type 0
  OnceSet =
      (p : Parameter T) (v : Value T) (w : Tween) → w.start_time ≡ At (awaited id tick g) → (try_set_of k p v w).refused ≡ 0
      → Begins (try_set_of k p v w).parameter w

pub record Served (st : Station) (id : ClockId) (es : List Event) (tick : ℕ) (g : Float) : Type 0 where
  pub sum : Stands (after_events (started st id) es) id (total (advances_of id (started st id) es))
  -- the start test at each accepted update: whether the sum of the advances up to it reaches tick and fraction
  pub tests : tests_of (awaited id tick g) (started st id) es ≡ map (leb (place_at tick g)) (sums_from 0 (advances_of id (started st id) es))
  pub first : first_pass (tests_of (awaited id tick g) (started st id) es) ≡ first_reach (place_at tick g) (sums_from 0 (advances_of id (started st id) es))
  pub floats : OnceSet float_tweens (started st id) id es tick g
  pub speeds : OnceSet speed_tweens (started st id) id es tick g
