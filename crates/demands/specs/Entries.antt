-- Demand 1: the calls that can be refused, on everything that a caller can lend, the number that each is given and what
-- is handed back; each by the definition that the entry's own contract cites. 01, "Refusal numbers". RULES,
-- exact-refusals. Assumes nothing.
use Rattle.std.specs.Prelude.{ℕ, ◌≤◌, Bool, not, List, length, eqb, Float}
use Rattle.ids.specs.declared.Key.{Key}
use Rattle.judge.specs.Answer.{Answer, is_refused, number_told}
use Rattle.times.specs.Times.{try_add_ticks_of, try_sub_ticks_of, try_add_float_of, try_sub_float_of}
use Rattle.values.specs.declared.clock_speed.ClockSpeed.{ClockSpeed}
use Rattle.times.specs.declared.start_time.StartTime.{StartTime}
use Rattle.times.specs.declared.time.ClockId.{ClockId}
use Rattle.times.specs.declared.time.ClockTime.{ClockTime}
use Rattle.times.specs.declared.tween.Tween.{Tween}
use Rattle.values.specs.Speeds.{speed_tweens}
use Rattle.values.specs.Tweenables.{Tweens, float_tweens}
use Rattle.values.specs.declared.value.Value.{Value}
use Rattle.parameter.specs.Parameters.{try_new_of, try_set_of, try_update_of}
use Rattle.parameter.specs.declared.Parameter.{Parameter}
use Rattle.parameter.specs.declared.Sight.{Sight}
use Rattle.info.specs.Infos.{try_when_to_start_of, try_raw_in, try_update_start_in}
use Rattle.info.specs.ParametersIn.{try_update_in}
use Rattle.info.specs.declared.info.Info.{Info}
use Rattle.station.specs.Stations.{info_in}
use Rattle.station.specs.declared.Station.{Station}
use Rattle.report.specs.Reports.{report_of}
use Rattle.laws.specs.Calls.{Call, after, told, call_number}

-- what a caller lends: a station, a parameter of each kind that is its own, and a buffer of bytes
pub record Lent : Type 0 where
  pub station : Station
  pub float : Parameter Float
  pub speed : Parameter ClockSpeed
  pub buffer : List ℕ

-- All that is asked of a state: a table has 16 keys at most, and none of them is without an entry. A table is an array
-- of 16 keys and an array of 16 entries, so every station that a caller can hold is so; nothing else of it matters.
pub record Sized {A : Type 0} (ks : List Key) (es : List A) : Type 0 where
  pub most : length ks ≤ 16
  pub filled : length ks ≤ length es

pub record Tables (st : Station) : Type 0 where
  pub clocks : Sized st.clocks.keys st.clocks.clocks
  pub modulators : Sized st.modulators.keys st.modulators.slots

-- a time moved by whole ticks or by a double
pub data Shift : Type 0 where
  add_ticks : ℕ → Shift
  sub_ticks : ℕ → Shift
  add_float : Float → Shift
  sub_float : Float → Shift

abbrev pub shifted_of : ClockTime → Shift → Answer ClockTime
shifted_of t (add_ticks n) = try_add_ticks_of t n
shifted_of t (sub_ticks n) = try_sub_ticks_of t n
shifted_of t (add_float x) = try_add_float_of t x
shifted_of t (sub_float x) = try_sub_float_of t x

-- On a parameter of one kind, of values T: a set, an update that sees the station, and one that is told what it sees
-- (`advance`). And what is done with values of the kind alone: one that is read in a station, and a parameter that is
-- made, which is a new one.
pub data OnKind (T : Type 0) : Type 0 where
  set : Value T → Tween → OnKind T
  update : Float → OnKind T
  advance : Float → Sight → OnKind T
  read : Value T → OnKind T
  make : Value T → T → OnKind T

-- On the station: a command on its clocks or its modulators, or a frame. On the caller's own parameters, of floats and
-- of speeds. A clock's report. What only looks at the station: whether a start has come (`when`), and a start that is
-- updated. What is lent nothing: a time that is moved, with TICKS_FULL, and BEFORE_ZERO, which is its alone.
-- Every public function of the core that can be refused is here, with these exceptions:
--   the calls on a table of clocks or modulators by itself (`Clocks::add`, `Modulators::set_tweener`, ..): a command
--     runs the one of its name, by the same definition;
--   the calls that are lent nothing and ask nothing but whether each argument is well (`try_as_seconds_per_tick` and
--     its two like, `try_interpolate`, `try_as_secs_f64`, `try_update` of a start time, `try_from_ticks_f64`,
--     `try_partial_cmp`, `try_apply`, `try_wave_value`, `try_map`, `try_map_output`, `try_value_output`): each is
--     `judged` with its faults and an accepted answer, and `judged_exactly` of `Exactly` speaks of all such;
--   the parts of entries (`accept` of faults, `more_ticks`, `take_ticks`, `find`, `free`, `look`, `update` of a clock,
--     `turn_clock`, `run_clock`, `run_modulator`), whose numbers are here as those of the frame, of a time that is
--     moved, and of the calls on the station and the report.
pub data Entry : Type 0 where
  on_station : Call → Entry
  on_float : OnKind Float → Entry
  on_speed : OnKind ClockSpeed → Entry
  report : ClockId → Entry
  when : ClockTime → Entry
  start_in : StartTime → Float → Entry
  shift : ClockTime → Shift → Entry

-- a call on the parameter p of a kind, where the station shows this
module _ {T : Type 0} (k : Tweens T) (info : Info) (p : Parameter T) where
  -- the number of the refusal, 0 where there is none: RULES, refusal and ok
  abbrev pub number_on : OnKind T → ℕ
  number_on (set v w) = (try_set_of k p v w).refused
  number_on (update dt) = (try_update_in k info p dt).refused
  number_on (advance dt s) = (try_update_of k p dt s.when s.input).refused
  number_on (read v) = number_told (try_raw_in k info v)
  number_on (make v d) = number_told (try_new_of k v d)

  -- whether the answer is a refusal: an answer that says so, or a number beside what is handed back
  abbrev pub refusal_on : OnKind T → Bool
  refusal_on (set v w) = not (eqb (number_on (set v w)) 0)
  refusal_on (update dt) = not (eqb (number_on (update dt)) 0)
  refusal_on (advance dt s) = not (eqb (number_on (advance dt s)) 0)
  refusal_on (read v) = is_refused (try_raw_in k info v)
  refusal_on (make v d) = is_refused (try_new_of k v d)

  -- the parameter behind the call
  abbrev pub left_on : OnKind T → Parameter T
  left_on (set v w) = (try_set_of k p v w).parameter
  left_on (update dt) = (try_update_in k info p dt).parameter
  left_on (advance dt s) = (try_update_of k p dt s.when s.input).parameter
  left_on (read v) = p
  left_on (make v d) = p

-- the number of the refusal, 0 where there is none: RULES, refusal and ok
abbrev pub number_given : Lent → Entry → ℕ
number_given l (on_station c) = call_number l.station c
number_given l (on_float c) = number_on float_tweens (info_in l.station) l.float c
number_given l (on_speed c) = number_on speed_tweens (info_in l.station) l.speed c
number_given l (report id) = number_told (report_of l.station.clocks id l.buffer).answer
number_given l (when t) = number_told (try_when_to_start_of (info_in l.station) t)
number_given l (start_in s dt) = number_told (try_update_start_in (info_in l.station) s dt)
number_given l (shift t s) = number_told (shifted_of t s)

-- whether the answer is a refusal
abbrev pub is_refusal : Lent → Entry → Bool
is_refusal l (on_station c) = is_refused (told l.station c)
is_refusal l (on_float c) = refusal_on float_tweens (info_in l.station) l.float c
is_refusal l (on_speed c) = refusal_on speed_tweens (info_in l.station) l.speed c
is_refusal l (report id) = is_refused (report_of l.station.clocks id l.buffer).answer
is_refusal l (when t) = is_refused (try_when_to_start_of (info_in l.station) t)
is_refusal l (start_in s dt) = is_refused (try_update_start_in (info_in l.station) s dt)
is_refusal l (shift t s) = is_refused (shifted_of t s)

abbrev pub with_station : Lent → Station → Lent
with_station l st = record { station = st; float = l.float; speed = l.speed; buffer = l.buffer }

abbrev pub with_float : Lent → Parameter Float → Lent
with_float l p = record { station = l.station; float = p; speed = l.speed; buffer = l.buffer }

abbrev pub with_speed : Lent → Parameter ClockSpeed → Lent
with_speed l p = record { station = l.station; float = l.float; speed = p; buffer = l.buffer }

abbrev pub with_buffer : Lent → List ℕ → Lent
with_buffer l out = record { station = l.station; float = l.float; speed = l.speed; buffer = out }

-- what the caller has again behind the call: the station, the parameters and the buffer at exit
abbrev pub handed_back : Lent → Entry → Lent
handed_back l (on_station c) = with_station l (after l.station c)
handed_back l (on_float c) = with_float l (left_on float_tweens (info_in l.station) l.float c)
handed_back l (on_speed c) = with_speed l (left_on speed_tweens (info_in l.station) l.speed c)
handed_back l (report id) = with_buffer l (report_of l.station.clocks id l.buffer).out
handed_back l (when t) = l
handed_back l (start_in s dt) = l
handed_back l (shift t s) = l
