-- A station's calls, as the crate `run` has them, which ids they give out, and which entry a call acts on. 01, "Refusal
-- numbers", "Names that cannot be shared", "Frame". Assumes nothing.
use Rattle.std.specs.Prelude.{ℕ, ◌≡◌, Bool, true, ◌⊎◌, List, [], ◌∷◌, get_or}
use Rattle.ids.specs.Keys.{lives_in, Standing, standing_of}
use Rattle.ids.specs.declared.Key.{Key}
use Rattle.judge.specs.Answer.{Answer, accepted, refused, number_told}
use Rattle.clock.specs.declared.Clock.{Clock}
use Rattle.modulator_table.specs.declared.Slot.{Slot}
use Rattle.commands.specs.Answers as answers
use Rattle.commands.specs.declared.clock_command.ClockCommand.{ClockCommand}
use Rattle.commands.specs.declared.clock_command.ClockCommand.TheVariants as clocks
use Rattle.commands.specs.declared.modulator_command.ModulatorCommand.{ModulatorCommand}
use Rattle.commands.specs.declared.modulator_command.ModulatorCommand.TheVariants as modulators
use Rattle.station.specs.declared.Station.{Station}
-- ---- calls

pub use Rattle.run.specs.declared.Call.{Call}
pub use Rattle.run.specs.declared.Call.TheVariants.{Clock as clock, Modulator as modulator, Frame as frame}
pub use Rattle.run.specs.Runs.{after, told}
unfoldable pub use Rattle.run.specs.Runs.{after_all}
-- ---- the two tables

pub use Rattle.commands.specs.Answers.{Kind, of_clock, of_modulator}

abbrev pub keys_of : Kind → Station → List Key
keys_of of_clock st = st.clocks.keys
keys_of of_modulator st = st.modulators.keys

abbrev pub lives : Kind → Station → ℕ → ℕ → Bool
lives k st i g = lives_in (keys_of k st) i g

-- what an id is to the table of its kind: RULES, gone and never-issued
abbrev pub standing : Kind → Station → ℕ → ℕ → Standing
standing k st i g = standing_of (keys_of k st) i g

-- what a slot holds
abbrev pub Entry : Kind → Type 0
Entry of_clock = Clock
Entry of_modulator = Slot

abbrev pub entries_of : (k : Kind) → Station → List (Entry k)
entries_of of_clock st = st.clocks.clocks
entries_of of_modulator st = st.modulators.slots

-- ---- answers

-- what an answer tells: the number of a refusal, or what an accepted call gives, as the id of an entry that was added
abbrev pub Told : Type 0
Told = Answer answers.Given

abbrev pub refusal : ℕ → Told
refusal n = refused n

abbrev pub named : Kind → ℕ → ℕ → Told
named k i g = accepted (answers.named k i g)

abbrev pub done : Told
done = accepted answers.done

-- the number of the refusal, and 0 where the call is accepted
abbrev pub call_number : Station → Call → ℕ
call_number st c = number_told (told st c)

-- one of these calls, made one after the other from this station on, gave that id out: RULES, issued
abbrev pub Issued : Kind → ℕ → ℕ → Station → List Call → Type 0
Issued k i g st [] = ⊥
Issued k i g st (c ∷ cs) = (told st c ≡ named k i g) ⊎ Issued k i g (after st c) cs

-- ---- what a call acts on

-- the entry of an id, none that was there (an add or a read), or all (a frame)
pub data Target : Type 0 where
  entry : Kind → ℕ → ℕ → Target
  none : Target
  all : Target

abbrev pub clock_target : ClockCommand → Target
clock_target (clocks.Add v) = none
clock_target (clocks.Remove id) = entry of_clock id.slot id.generation
clock_target (clocks.Start id) = entry of_clock id.slot id.generation
clock_target (clocks.Stop id) = entry of_clock id.slot id.generation
clock_target (clocks.Reset id) = entry of_clock id.slot id.generation
clock_target (clocks.SetSpeed id v w) = entry of_clock id.slot id.generation
clock_target (clocks.Time id) = none
clock_target (clocks.Ticking id) = none
clock_target (clocks.Speed id) = none

abbrev pub modulator_target : ModulatorCommand → Target
modulator_target (modulators.AddTweener x) = none
modulator_target (modulators.AddLfo b) = none
modulator_target (modulators.Remove id) = entry of_modulator id.slot id.generation
modulator_target (modulators.SetTweener id x w) = entry of_modulator id.slot id.generation
modulator_target (modulators.SetParameter id p v w) = entry of_modulator id.slot id.generation
modulator_target (modulators.SetWaveform id w) = entry of_modulator id.slot id.generation
modulator_target (modulators.SetPhase id x) = entry of_modulator id.slot id.generation
modulator_target (modulators.Value id) = none

abbrev pub target_of : Call → Target
target_of (clock c) = clock_target c
target_of (modulator c) = modulator_target c
target_of (frame dt) = all

-- whether the entry of that id is among what is acted on
abbrev pub Touches : Target → Kind → ℕ → ℕ → Type 0
Touches (entry l i g) k j h = entry l i g ≡ entry k j h
Touches none k j h = ⊥
Touches all k j h = Unit {0}

-- what stands in slot j is the same in a table of keys ls and entries fs as in one of ks and es, and its id lives on
pub record Stays {A : Type 0} (ks ls : List Key) (es fs : List A) (j h : ℕ) : Type 0 where
  pub same_key : (d : Key) → get_or ls j d ≡ get_or ks j d
  pub same_entry : (d : A) → get_or fs j d ≡ get_or es j d
  pub alive : lives_in ls j h ≡ true

-- the entry of that id stands in t as it stood in s
abbrev pub Untouched : Kind → Station → Station → ℕ → ℕ → Type 0
Untouched k s t j h = Stays (keys_of k s) (keys_of k t) (entries_of k s) (entries_of k t) j h
