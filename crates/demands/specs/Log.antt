-- What the numbers 7 and 15 in a station's log say of an id: which id each call names, and what each number means, by
-- the calls that the station has had since it was fresh. 02, dead or never ours. RULES, issued. Assumes nothing.
use Rattle.std.specs.Prelude.{ℕ, ◌≡◌, Bool, true, false, ◌⊎◌, List}
use Rattle.ids.specs.Keys.{gone, never_issued}
use Rattle.ids.specs.Lists.{read_at}
use Rattle.modulator_table.specs.declared.Modulator.{Modulator}
use Rattle.commands.specs.declared.clock_command.ClockCommand.{ClockCommand}
use Rattle.commands.specs.declared.clock_command.ClockCommand.TheVariants as clocks
use Rattle.commands.specs.declared.modulator_command.ModulatorCommand.{ModulatorCommand}
use Rattle.commands.specs.declared.modulator_command.ModulatorCommand.TheVariants as modulators
use Rattle.station.specs.Stations.{fresh_station}
use Rattle.station.specs.declared.Station.{Station}
use Rattle.laws.specs.Calls.{Call, clock, modulator, frame, after_all, Kind, of_clock, of_modulator, lives, standing, Issued}
use Rattle.demands.specs.Conditions.{is_tweener, is_lfo}
use Rattle.demands.specs.Entries.{Entry, on_station, on_float, on_speed, report, when, start_in, shift}

-- ---- which id a call names

-- none, an id of either table, or a modulator's of the one kind that f tells
pub data Named : Type 0 where
  no_id : Named
  any_of : Kind → ℕ → ℕ → Named
  kind_of : (Modulator → Bool) → ℕ → ℕ → Named

abbrev pub clock_named : ClockCommand → Named
clock_named (clocks.Add v) = no_id
clock_named (clocks.Remove id) = any_of of_clock id.slot id.generation
clock_named (clocks.Start id) = any_of of_clock id.slot id.generation
clock_named (clocks.Stop id) = any_of of_clock id.slot id.generation
clock_named (clocks.Reset id) = any_of of_clock id.slot id.generation
clock_named (clocks.SetSpeed id v w) = any_of of_clock id.slot id.generation
clock_named (clocks.Time id) = any_of of_clock id.slot id.generation
clock_named (clocks.Ticking id) = any_of of_clock id.slot id.generation
clock_named (clocks.Speed id) = any_of of_clock id.slot id.generation

abbrev pub modulator_named : ModulatorCommand → Named
modulator_named (modulators.AddTweener x) = no_id
modulator_named (modulators.AddLfo b) = no_id
modulator_named (modulators.Remove id) = any_of of_modulator id.slot id.generation
modulator_named (modulators.SetTweener id x w) = kind_of is_tweener id.slot id.generation
modulator_named (modulators.SetParameter id p v w) = kind_of is_lfo id.slot id.generation
modulator_named (modulators.SetWaveform id w) = kind_of is_lfo id.slot id.generation
modulator_named (modulators.SetPhase id x) = kind_of is_lfo id.slot id.generation
modulator_named (modulators.Value id) = any_of of_modulator id.slot id.generation

-- the id that a call acts on or reads; those inside a value or a start are not looked up so: RULES, free-ids
abbrev pub named_by : Entry → Named
named_by (on_station (clock c)) = clock_named c
named_by (on_station (modulator c)) = modulator_named c
named_by (on_station (frame dt)) = no_id
named_by (on_float c) = no_id
named_by (on_speed c) = no_id
named_by (report id) = any_of of_clock id.slot id.generation
named_by (when t) = no_id
named_by (start_in s dt) = no_id
named_by (shift t s) = no_id

-- ---- what the numbers mean, in any station

-- a living modulator, and not of the kind that f tells
pub record OtherKind (f : Modulator → Bool) (st : Station) (i g : ℕ) : Type 0 where
  pub alive : lives of_modulator st i g ≡ true
  pub other : read_at false (λ s. f s.modulator) st.modulators.slots i ≡ false

abbrev pub IsGone : Station → Named → Type 0
IsGone st no_id = ⊥
IsGone st (any_of k i g) = standing k st i g ≡ gone
IsGone st (kind_of f i g) = standing of_modulator st i g ≡ gone

abbrev pub IsNever : Station → Named → Type 0
IsNever st no_id = ⊥
IsNever st (any_of k i g) = standing k st i g ≡ never_issued
IsNever st (kind_of f i g) = (standing of_modulator st i g ≡ never_issued) ⊎ OtherKind f st i g

-- ---- and by what the station has answered, cs being all its calls since it was fresh

-- one of ours that is over: a call gave it out, and it lives no more
pub record Over (k : Kind) (cs : List Call) (i g : ℕ) : Type 0 where
  pub issued : Issued k i g fresh_station cs
  pub dead : lives k (after_all fresh_station cs) i g ≡ false

abbrev pub OursOver : List Call → Named → Type 0
OursOver cs no_id = ⊥
OursOver cs (any_of k i g) = Over k cs i g
OursOver cs (kind_of f i g) = Over of_modulator cs i g

-- not ours: no call gave it out. Of a call for one kind of modulator, also the id of one of the other kind that lives
abbrev pub NotOurs : List Call → Named → Type 0
NotOurs cs no_id = ⊥
NotOurs cs (any_of k i g) = Issued k i g fresh_station cs → ⊥
NotOurs cs (kind_of f i g) = (Issued of_modulator i g fresh_station cs → ⊥) ⊎ OtherKind f (after_all fresh_station cs) i g
