-- Demand 3: what a run is made of, and what is read off it, in whole numbers: a double stands as its size in units of
-- 2^-1074. 01, "How far each statement binds". RULES, served. Assumes nothing.
use Rattle.std.specs.Prelude.{ℕ, ◌+◌, Bool, false, not, ◌&&◌, ◌||◌, cond, Option, List, [], ◌∷◌, ◌++◌, position, eqb, leb, Float}
use Rattle.doubles.specs.Doubles.{scaled}
use Rattle.judge.specs.Answer.{Answer, accepted, refused}
use Rattle.judge.specs.Judge.{bad_dt}
use Rattle.times.specs.declared.time.ClockId.{ClockId}
use Rattle.times.specs.declared.time.ClockTime.{ClockTime}
use Rattle.parameter.specs.Courses.{is_now}
use Rattle.info.specs.Infos.{when_to_start_of}
use Rattle.clock.specs.OneClock.{advance_of}
use Rattle.ids.specs.Tables.{where_is, read_found}
use Rattle.clock_table.specs.ClockTables.{clock_table}
use Rattle.clock.specs.declared.Clock.{Clock}
use Rattle.station.specs.Frames.{frame_of}
use Rattle.station.specs.Stations.{info_in}
use Rattle.station.specs.declared.Station.{Station}
use Rattle.laws.specs.Calls.{Call, clock, modulator, frame, after}

-- ---- runs

-- a call on the station, any one; or an update, by a dt, of the parameter that waits, which is the caller's own
pub data Event : Type 0 where
  call : Call → Event
  update : Float → Event

-- the station that a run leaves, its first event first
unfoldable pub after_events : Station → List Event → Station
after_events st [] = st
after_events st (call c ∷ es) = after_events (after st c) es
after_events st (update dt ∷ es) = after_events st es

-- the clock of an id, as it stands
abbrev pub clock_in : Station → ClockId → Answer Clock
clock_in st id = read_found clock_table st.clocks (where_is clock_table st.clocks id) (λ c. c)

-- an accepted frame: a call that gives the clocks their turn, and is not refused
unfoldable pub moves : Station → Call → Bool
moves st (clock c) = false
moves st (modulator c) = false
moves st (frame dt) = eqb (frame_of st dt).refused 0

-- ---- sums

-- how far the clock goes, by the speed that it has once it was updated: RULES, advance
abbrev pub advance_by : Answer Clock → Float → List Float
advance_by (accepted c) dt = advance_of c.speed dt ∷ []
advance_by (refused n) dt = []

-- a call's advance of the clock of an id: none, unless it is an accepted frame
unfoldable pub advance_in : ClockId → Station → Call → List Float
advance_in id st (clock c) = []
advance_in id st (modulator c) = []
advance_in id st (frame dt) = cond (eqb (frame_of st dt).refused 0) (advance_by (clock_in (frame_of st dt).station id) dt) []

-- the advances of a run, in order
unfoldable pub advances_of : ClockId → Station → List Event → List Float
advances_of id st [] = []
advances_of id st (call c ∷ es) = advance_in id st c ++ advances_of id (after st c) es
advances_of id st (update dt ∷ es) = advances_of id st es

-- the sum of advances, with nothing rounded: RULES, exact-sum
unfoldable pub total : List Float → ℕ
total [] = 0
total (x ∷ xs) = scaled x + total xs

-- the sums of the first, of the first two, and so on, each with n
unfoldable pub sums_from : ℕ → List Float → List ℕ
sums_from n [] = []
sums_from n (x ∷ xs) = (n + scaled x) ∷ sums_from (n + scaled x) xs

-- ---- the parameter's updates

-- the order that is asked of a run: an update is owed from an accepted frame on, until it comes; where none is owed,
-- none but a refused one comes: RULES, run
unfoldable pub in_order : Bool → Station → List Event → Bool
in_order owed st [] = not owed
in_order owed st (call c ∷ es) = not (owed && moves st c) && in_order (owed || moves st c) (after st c) es
in_order owed st (update dt ∷ es) = (owed || bad_dt dt) && in_order (owed && bad_dt dt) st es

-- x where dt is accepted
abbrev pub where_accepted : {A : Type 0} → Float → A → List A
where_accepted dt x = cond (bad_dt dt) [] (x ∷ [])

-- the accepted dts
unfoldable pub dts_of : List Event → List Float
dts_of [] = []
dts_of (call c ∷ es) = dts_of es
dts_of (update dt ∷ es) = where_accepted dt dt ++ dts_of es

-- what the start test answers at each accepted update: RULES, now
unfoldable pub tests_of : ClockTime → Station → List Event → List Bool
tests_of t st [] = []
tests_of t st (call c ∷ es) = tests_of t (after st c) es
tests_of t st (update dt ∷ es) = where_accepted dt (is_now (when_to_start_of (info_in st) t)) ++ tests_of t st es

-- ---- the first of a list, counted from 0

-- where the first test passes
unfoldable pub first_pass : List Bool → Option ℕ
first_pass bs = position (λ b. b) bs

-- where the first sum reaches w
unfoldable pub first_reach : ℕ → List ℕ → Option ℕ
first_reach w ns = position (leb w) ns
