-- Document 01, "Frame (added)": the turns of a frame, what each sees, and when the frame is undone. Assumes nothing.
use Rattle.std.specs.Prelude.{ℕ, zero, suc, ◌+◌, cond, Option, None, Result, Ok, Err, List, map, replicate, set, Float}
use Rattle.ids.specs.Lists.{read_at}
use Rattle.ids.specs.declared.Key.{Key}
use Rattle.judge.specs.Answer.{Answer, accepted, refused, number_of_refusal}
use Rattle.judge.specs.Judge.{dt_faults, first_fault, decided}
use Rattle.judge.specs.declared.Refusal.{Refusal}
use Rattle.info.specs.declared.info.Info.{Info}
use Rattle.clock.specs.OneClock.{Ticked, info_of}
use Rattle.clock.specs.declared.Clock.{Clock}
use Rattle.clock_table.specs.declared.Clocks.{Clocks}
use Rattle.modulator_table.specs.ModulatorTables.{slot_of, slot_value}
use Rattle.modulator_table.specs.declared.Slot.{Slot}
use Rattle.modulator_table.specs.declared.Modulators.{Modulators}
use Rattle.station.specs.Stations.{info_in}
use Rattle.station.specs.Turns.{turn_modulator, turn_clock}
use Rattle.station.specs.declared.Station.{Station}

-- ---- modulators, from the lowest slot on: RULES, frame-order

-- what is seen while the modulators stand so, those that had their turn as it left them and the others as they were:
-- RULES, frame-sight
abbrev pub seeing : Info → List Slot → Info
seeing info slots = record { clock_keys = info.clock_keys; clocks = info.clocks; modulator_keys = info.modulator_keys; values = map slot_value slots }

-- the turn of slot i, where it is occupied
abbrev pub modulator_turn : Info → Float → List Key → ℕ → List Slot → List Slot
modulator_turn info dt keys i slots =
    read_at slots (λ k. cond k.used (read_at slots (λ s. set slots i (slot_of (turn_modulator (seeing info slots) s.modulator dt))) slots i) slots) keys i

-- n turns from slot i on
unfoldable pub modulator_turns : Info → Float → List Key → ℕ → ℕ → List Slot → List Slot
modulator_turns info dt keys zero i slots = slots
modulator_turns info dt keys (suc n) i slots = modulator_turns info dt keys n (i + 1) (modulator_turn info dt keys i slots)

-- all 16 turns
abbrev pub slots_turned : Info → Float → List Key → List Slot → List Slot
slots_turned info dt keys slots = modulator_turns info dt keys 16 0 slots

abbrev pub turned : Info → Float → Modulators → List Slot
turned info dt t = slots_turned info dt t.keys t.slots

-- the modulators after their turns, and what is seen then
pub record ModulatorsTurned : Type 0 where
  pub table : Modulators
  pub info : Info

unfoldable pub modulators_turned : Info → Float → Modulators → ModulatorsTurned
modulators_turned info dt t = record { table = record { keys = t.keys; slots = turned info dt t }; info = seeing info (turned info dt t) }

-- ---- clocks, from the lowest slot on: RULES, frame-order

-- one for each clock slot: RULES, frame-reports
abbrev pub no_reports : List (Option ℕ)
no_reports = replicate 16 None

-- what the turns so far gave: the clocks and their reports, or the number of a refusal
pub data Try : Type 0 where
  went : List Clock → List (Option ℕ) → Try
  stopped : ℕ → Try

abbrev pub watching : Info → List Clock → Info
watching info cs = record { clock_keys = info.clock_keys; clocks = map info_of cs; modulator_keys = info.modulator_keys; values = info.values }

abbrev pub placed : ℕ → List Clock → List (Option ℕ) → Answer Ticked → Try
placed i cs rs (accepted t) = went (set cs i t.clock) (set rs i t.report)
placed i cs rs (refused n) = stopped n

-- the turn of slot i, where it is occupied
abbrev pub clock_turn : Info → Float → List Key → ℕ → List Clock → List (Option ℕ) → Try
clock_turn info dt keys i cs rs =
    read_at (went cs rs) (λ k. cond k.used (read_at (went cs rs) (λ c. placed i cs rs (turn_clock (watching info cs) c dt)) cs i) (went cs rs)) keys i

abbrev pub then : (List Clock → List (Option ℕ) → Try) → Try → Try
then f (went cs rs) = f cs rs
then f (stopped n) = stopped n

-- n turns from slot i on, up to the first that is refused: RULES, frame-refused
unfoldable pub clock_turns : Info → Float → List Key → ℕ → ℕ → List Clock → List (Option ℕ) → Try
clock_turns info dt keys zero i cs rs = went cs rs
clock_turns info dt keys (suc n) i cs rs = then (clock_turns info dt keys n (i + 1)) (clock_turn info dt keys i cs rs)

-- what the code says of the turns: what they reported, beside the clocks
abbrev pub tried : Result (List (Option ℕ)) Refusal → List Clock → Try
tried (Ok rs) cs = went cs rs
tried (Err r) cs = stopped (number_of_refusal r)

-- all 16 turns, up to the first that is refused
abbrev pub all_turns : Info → Float → List Key → List Clock → Try
all_turns info dt keys cs = clock_turns info dt keys 16 0 cs no_reports

-- the clocks after their turns; as they were, where one refused
pub record ClocksTurned : Type 0 where
  pub refused : ℕ
  pub table : Clocks
  pub reports : List (Option ℕ)

abbrev pub closed : Clocks → Try → ClocksTurned
closed t (went cs rs) = record { refused = 0; table = record { keys = t.keys; clocks = cs }; reports = rs }
closed t (stopped n) = record { refused = n; table = t; reports = no_reports }

unfoldable pub clocks_turned : Info → Float → Clocks → ClocksTurned
clocks_turned info dt t = closed t (all_turns info dt t.keys t.clocks)

-- ---- the frame

-- 0 or the number of a refusal, the station after the frame, and what the clock of each slot reported
pub record Framed : Type 0 where
  pub refused : ℕ
  pub station : Station
  pub reports : List (Option ℕ)

-- nothing moved, and nothing reported: RULES, frame-refused
abbrev pub undone_of : Station → ℕ → Framed
undone_of st n = record { refused = n; station = st; reports = no_reports }

-- what the code says of a frame, beside the station that it left
abbrev pub framed_told : Result (List (Option ℕ)) Refusal → Station → Framed
framed_told (Ok rs) st = record { refused = 0; station = st; reports = rs }
framed_told (Err r) st = undone_of st (number_of_refusal r)

abbrev pub framed : Station → Modulators → ClocksTurned → Framed
framed st ms c =
    decided c.refused
    (record { refused = 0; station = record { clocks = c.table; modulators = ms }; reports = c.reports })
    (undone_of st)

-- first every modulator, with the clocks' old times, then every clock, with the modulators' new values:
-- RULES, frame-order and frame-sight
unfoldable pub frame_of : Station → Float → Framed
frame_of st dt =
    let m = modulators_turned (info_in st) dt st.modulators in
    decided (first_fault (dt_faults dt))
    (framed st m.table (clocks_turned m.info dt st.clocks))
    (undone_of st)
