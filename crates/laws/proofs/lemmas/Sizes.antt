-- The tables of every station that calls can reach have 16 keys and 16 entries each. 01, "Names that cannot be
-- shared"; RULES, slots. Assumes nothing.
use Prim.Native.Nat.{ℕ, zero, suc, ◌+◌}
use mathlib.Core.Path.{◌≡◌, refl, ap, ◌∙◌, subst}
use mathlib.Core.List.{List, [], ◌∷◌}
use lib.ListN.{length, set, length-set}
use lib.Ieee.{Float}
use Rattle.ids.specs.declared.Key.{Key}
use Rattle.commands.specs.declared.clock_command.ClockCommand.{ClockCommand}
use Rattle.commands.specs.declared.clock_command.ClockCommand.TheVariants as command
use Rattle.commands.specs.declared.modulator_command.ModulatorCommand.{ModulatorCommand}
use Rattle.commands.specs.declared.modulator_command.ModulatorCommand.TheVariants as modulators
use Rattle.info.specs.declared.info.Info.{Info}
use Rattle.std.specs.Prelude.{Option}
use Rattle.clock.specs.declared.Clock.{Clock}
use Rattle.modulator_table.specs.ModulatorTables.{slot_of}
use Rattle.modulator_table.specs.declared.Slot.{Slot}
use Rattle.station.specs.Frames.{clock_turn, seeing, modulator_turn, modulator_turns, clock_turns, frame_of}
use Rattle.station.specs.Stations.{fresh_station, info_in}
use Rattle.station.specs.Turns.{turn_modulator}
use Rattle.station.specs.declared.Station.{Station}
use Rattle.laws.specs.Calls.{Call, clock, modulator, frame, after, after_all, Kind, of_clock, of_modulator, keys_of, entries_of, Told, Target, all, clock_target, modulator_target}
use Rattle.laws.proofs.lemmas.Deeds.{Deed, leaves, changes, removes, adds, turns, deed}
use Rattle.laws.proofs.lemmas.Cases.{read_case, slot_case, Ends, next, weaker, turn_any, frame_case}
use Rattle.laws.proofs.Lives.{frame_keys}

pub record Full {A : Type 0} (ks : List Key) (es : List A) : Type 0 where
  pub keys : length ks ≡ 16
  pub entries : length es ≡ 16

abbrev pub Sixteen : Kind → Station → Type 0
Sixteen k st = Full (keys_of k st) (entries_of k st)

-- ---- commands

-- as long as before, where it is no frame
lengths :
    {A : Type 0} {k : Kind} {ks ls : List Key} {es fs : List A} {a : Target} {o : Told} → Deed k ks es a o ls fs → (a ≡ all → ⊥)
    → (length ls ≡ length ks) × (length fs ≡ length es)
lengths (leaves a o u) n = (refl, refl)
lengths (changes i g x l) n = (refl, simp length-set)
lengths (removes i g l) n = (simp length-set, refl)
lengths (adds i g x e) n = (simp length-set, simp length-set)
lengths (turns fs) n = absurd (n refl)

clock_not_all : (c : ClockCommand) → clock_target c ≡ all → ⊥
clock_not_all (command.Add v) e = cc
clock_not_all (command.Remove j) e = cc
clock_not_all (command.Start j) e = cc
clock_not_all (command.Stop j) e = cc
clock_not_all (command.Reset j) e = cc
clock_not_all (command.SetSpeed j v w) e = cc
clock_not_all (command.Time j) e = cc
clock_not_all (command.Ticking j) e = cc
clock_not_all (command.Speed j) e = cc

modulator_not_all : (c : ModulatorCommand) → modulator_target c ≡ all → ⊥
modulator_not_all (modulators.AddTweener x) e = cc
modulator_not_all (modulators.AddLfo b) e = cc
modulator_not_all (modulators.Remove j) e = cc
modulator_not_all (modulators.SetTweener j x w) e = cc
modulator_not_all (modulators.SetParameter j p v w) e = cc
modulator_not_all (modulators.SetWaveform j w) e = cc
modulator_not_all (modulators.SetPhase j x) e = cc
modulator_not_all (modulators.Value j) e = cc

-- ---- frames

module _ (info : Info) (dt : Float) (keys : List Key) where
  -- a turn stores into the slots that are there
  turn_length : (i : ℕ) (ss : List Slot) → length (modulator_turn info dt keys i ss) ≡ length ss
  turn_length i ss =
      slot_case Long ss put keys ss i refl (read_case Long ss put refl (λ s. length-set ss i _) ss i)
    where
      Long : List Slot → Type 0
      Long ts = length ts ≡ length ss

      put : Slot → List Slot
      put s = set ss i (slot_of (turn_modulator (seeing info ss) s.modulator dt))

  turned_length : (n i : ℕ) (ss : List Slot) → length (modulator_turns info dt keys n i ss) ≡ length ss
  unfolding modulator_turns
  turned_length zero i ss = refl
  turned_length (suc n) i ss = turned_length n (i + 1) (modulator_turn info dt keys i ss) ∙ turn_length i ss

  turns_length : (n i : ℕ) (cs : List Clock) (rs : List (Option ℕ)) → Ends (λ ds. length ds ≡ length cs) (clock_turns info dt keys n i cs rs)
  unfolding clock_turns
  turns_length zero i cs rs = refl
  turns_length (suc n) i cs rs =
      next (λ ds. length ds ≡ length cs) (λ ds. length ds ≡ length cs) (clock_turns info dt keys n (i + 1))
      (λ ds qs k. weaker (λ es. length es ≡ length ds) (λ es. length es ≡ length cs) (λ es q. q ∙ k) (clock_turns info dt keys n (i + 1) ds qs) (turns_length n (i + 1) ds qs))
      (clock_turn info dt keys i cs rs) (turn_any info dt keys i cs rs (λ ds. length ds ≡ length cs) refl (length-set cs i))

module _ (st : Station) (dt : Float) where
  frame_slots : length (frame_of st dt).station.modulators.slots ≡ length st.modulators.slots
  frame_slots =
      frame_case st dt (λ r. length r.station.modulators.slots ≡ length st.modulators.slots)
      (λ h cs rs e. turned_length (info_in st) dt st.modulators.keys 16 0 st.modulators.slots) (λ n y. refl)

  frame_clocks : length (frame_of st dt).station.clocks.clocks ≡ length st.clocks.clocks
  frame_clocks =
      frame_case st dt (λ r. length r.station.clocks.clocks ≡ length st.clocks.clocks)
      (λ h cs rs e. subst (Ends (λ ds. length ds ≡ length st.clocks.clocks)) e (turns_length _ dt st.clocks.keys 16 0 st.clocks.clocks _)) (λ n y. refl)

frame_entries : (k : Kind) (st : Station) (dt : Float) → length (entries_of k (after st (frame dt))) ≡ length (entries_of k st)
frame_entries of_clock st dt = frame_clocks st dt
frame_entries of_modulator st dt = frame_slots st dt

-- ---- every call

module _ (k : Kind) where
  call_sixteen : (st : Station) → Sixteen k st → (c : Call) → Sixteen k (after st c)
  call_sixteen st s (clock c) = let l = lengths (deed k st (clock c)) (clock_not_all c) in record { keys = l.0 ∙ s.keys; entries = l.1 ∙ s.entries }
  call_sixteen st s (modulator c) = let l = lengths (deed k st (modulator c)) (modulator_not_all c) in record { keys = l.0 ∙ s.keys; entries = l.1 ∙ s.entries }
  call_sixteen st s (frame dt) = record { keys = ap length (frame_keys k st dt) ∙ s.keys; entries = frame_entries k st dt ∙ s.entries }

  pub run_sixteen : (st : Station) → Sixteen k st → (cs : List Call) → Sixteen k (after_all st cs)
  unfolding after_all
  run_sixteen st s [] = s
  run_sixteen st s (c ∷ cs) = run_sixteen (after st c) (call_sixteen st s c) cs

  pub reached_sixteen : (cs : List Call) → Sixteen k (after_all fresh_station cs)
  reached_sixteen = run_sixteen fresh_station (fresh k)
    where
      fresh : (k : Kind) → Sixteen k fresh_station
      fresh of_clock = record { keys = refl; entries = refl }
      fresh of_modulator = record { keys = refl; entries = refl }
