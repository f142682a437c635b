-- Document 01, "Names that cannot be shared" and "clock.rs": the calls on the table of clocks. Assumes nothing.
use Rattle.std.specs.Prelude.{ℕ, Bool, replicate}
use Rattle.doubles.specs.Doubles.{zero_f}
use Rattle.ids.specs.Keys.{left_at}
use Rattle.ids.specs.Tables.{Table, Added, Done, on_entry, where_is, refused_call, on_found, changed, freed, read_found, added_to}
use Rattle.judge.specs.Answer.{Answer, accepted, refused}
use Rattle.judge.specs.Judge.{decided}
use Rattle.values.specs.declared.clock_speed.ClockSpeed.{ClockSpeed}
use Rattle.values.specs.declared.clock_speed.ClockSpeed.TheVariants.{TicksPerSecond}
use Rattle.times.specs.Times.{time_at}
use Rattle.times.specs.declared.time.ClockId.{ClockId}
use Rattle.times.specs.declared.time.ClockTime.{ClockTime}
use Rattle.values.specs.Speeds.{speed_tweens}
use Rattle.values.specs.Values.{value_faults}
use Rattle.times.specs.declared.tween.Tween.{Tween}
use Rattle.values.specs.declared.value.Value.{Value}
use Rattle.values.specs.declared.value.Value.TheVariants.{Fixed}
use Rattle.parameter.specs.Parameters.{Set, try_set_of}
use Rattle.clock.specs.OneClock.{new_clock, position_of, ticking_of, sped_of, reset_of}
use Rattle.clock.specs.declared.Clock.{Clock}
use Rattle.clock_table.specs.declared.Clocks.{Clocks}

-- what an unused slot holds before its first clock, Rust's default clock at rest: RULES, empty-slot
abbrev pub no_clocks : Clocks
no_clocks = record { keys = replicate 16 (left_at 0); clocks = replicate 16 (new_clock (Fixed (TicksPerSecond zero_f))) }

-- 0 or the number of a refusal, beside the table
abbrev pub ClockDone : Type 0
ClockDone = Done Clocks

-- this kind of table: what the calls of both kinds share is said in `Tables` of the crate `ids`
abbrev pub clock_table : Table Clocks Clock ClockId ClockDone
clock_table = record {
  keys_of = λ t. t.keys;
  entries_of = λ t. t.clocks;
  table_of = λ ks cs. record { keys = ks; clocks = cs };
  slot_in = λ id. id.slot;
  generation_in = λ id. id.generation;
  id_at = λ i g. record { slot = i; generation = g };
  done_as = λ n t. record { refused = n; table = t };
}

-- ---- adding

unfoldable pub add_clock_of : Clocks → Value ClockSpeed → Added Clocks ClockId
add_clock_of t v = added_to clock_table t (value_faults speed_tweens v) (new_clock v)

-- ---- by an id

-- the clock that an id names, behind its slot: RULES, living-id, gone and never-issued
unfoldable pub look_of : Clocks → ClockId → Answer (ℕ × Clock)
look_of t id = on_entry refused t.clocks (where_is clock_table t id) (λ i c. accepted (i, c))

unfoldable pub remove_of : Clocks → ClockId → ClockDone
remove_of t id = on_found clock_table t (where_is clock_table t id) (λ i c. freed clock_table t i id.generation)

-- start, and stop: RULES, start-and-stop
unfoldable pub tick_on_of : Bool → Clocks → ClockId → ClockDone
tick_on_of b t id = on_found clock_table t (where_is clock_table t id) (λ i c. changed clock_table t i (ticking_of b c))

unfoldable pub reset_clock_of : Clocks → ClockId → ClockDone
reset_clock_of t id = on_found clock_table t (where_is clock_table t id) (λ i c. changed clock_table t i (reset_of c))

-- a speed that was set, or refused: RULES, clock-speed-set
abbrev pub by_set : Clocks → ℕ → Clock → Set ClockSpeed → ClockDone
by_set t i c s = decided s.refused (changed clock_table t i (sped_of s.parameter c)) (refused_call clock_table t)

unfoldable pub set_speed_of : Clocks → ClockId → Value ClockSpeed → Tween → ClockDone
set_speed_of t id v w = on_found clock_table t (where_is clock_table t id) (λ i c. by_set t i c (try_set_of speed_tweens c.speed v w))

-- ---- reading

abbrev pub time_of : ClockId → Clock → ClockTime
time_of id c = time_at id (position_of c.state).ticks (position_of c.state).fraction

-- RULES, clock-reads
unfoldable pub clock_time_of : Clocks → ClockId → Answer ClockTime
clock_time_of t id = read_found clock_table t (where_is clock_table t id) (time_of id)

unfoldable pub clock_ticking_of : Clocks → ClockId → Answer Bool
clock_ticking_of t id = read_found clock_table t (where_is clock_table t id) (λ c. c.ticking)

unfoldable pub clock_speed_of : Clocks → ClockId → Answer ClockSpeed
clock_speed_of t id = read_found clock_table t (where_is clock_table t id) (λ c. c.speed.raw)
