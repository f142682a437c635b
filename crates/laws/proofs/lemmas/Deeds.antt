-- What each call does to each of the two tables: it leaves it, changes, removes or adds one entry, or gives every entry
-- its turn. The laws on calls are read off this. Assumes nothing.
use Prim.Native.Nat.{ℕ}
use mathlib.Core.Path.{◌≡◌}
use mathlib.Core.Bool.{true, false, cond}
use mathlib.Core.List.{List}
use lib.ListN.{set}
use lib.Dec.{eqb}
use lib.Ieee.{Float}
use Rattle.ids.specs.Keys.{room_at, free_of, lives_in, taken_at, left_at}
use Rattle.ids.specs.Tables.{changed, freed, on_found, refused_call, where_is}
use Rattle.ids.specs.declared.Key.{Key}
use Rattle.judge.specs.Answer.{Answer, accepted, refused, on_accepted}
use Rattle.judge.specs.Judge.{float_faults, first_fault}
use Rattle.judge.specs.Numbers.{NEVER_ISSUED}
use Rattle.judge.specs.declared.Faults.{Faults}
use Rattle.times.specs.declared.time.ClockId.{ClockId}
use Rattle.values.specs.declared.clock_speed.ClockSpeed.{ClockSpeed}
use Rattle.values.specs.Speeds.{speed_tweens}
use Rattle.values.specs.Tweenables.{float_tweens}
use Rattle.values.specs.Values.{value_faults}
use Rattle.waveform.specs.Waves.{wave_faults}
use Rattle.values.specs.declared.value.ModulatorId.{ModulatorId}
use Rattle.values.specs.declared.value.Value.{Value}
use Rattle.parameter.specs.Parameters.{target_faults, try_set_of}
use Rattle.modulator.specs.Tweeners.{new_tweener, tweener_to_of, tweener_faults}
use Rattle.modulator.specs.Lfos.{builder_faults, new_lfo, with_wave_of, with_phase_of}
use Rattle.modulator.specs.declared.lfo.Lfo.{Lfo}
use Rattle.modulator.specs.declared.tweener.Tweener.{Tweener}
use Rattle.clock.specs.OneClock.{new_clock, ticking_of, sped_of, reset_of}
use Rattle.clock_table.specs.ClockTables as clocks
use Rattle.clock.specs.declared.Clock.{Clock}
use Rattle.clock_table.specs.ClockTables.{ClockDone}
use Rattle.clock_table.specs.declared.Clocks.{Clocks}
use Rattle.modulator_table.specs.ModulatorTables as modulators
use Rattle.modulator_table.specs.ModulatorTables.{ModulatorDone}
use Rattle.modulator_table.specs.declared.Modulator.{Modulator}
use Rattle.modulator_table.specs.declared.Modulator.TheVariants.{OfTweener, OfLfo}
use Rattle.modulator_table.specs.declared.Modulators.{Modulators}
use Rattle.modulator_table.specs.declared.Slot.{Slot}
use Rattle.commands.specs.Answers as answers
use Rattle.commands.specs.Answers.{Given, by_number, Left}
use Rattle.commands.specs.ClockCommands as clockRuns
use Rattle.commands.specs.ClockCommands.{run_clock_of}
use Rattle.commands.specs.ModulatorCommands as modulatorRuns
use Rattle.commands.specs.ModulatorCommands.{run_modulator_of}
use Rattle.commands.specs.declared.clock_command.ClockCommand.{ClockCommand}
use Rattle.commands.specs.declared.clock_command.ClockCommand.TheVariants as clockCommand
use Rattle.commands.specs.declared.modulator_command.ModulatorCommand.{ModulatorCommand}
use Rattle.commands.specs.declared.modulator_command.ModulatorCommand.TheVariants as modulatorCommand
use Rattle.station.specs.Frames.{Framed, frame_of}
use Rattle.station.specs.declared.Station.{Station}
use Rattle.laws.specs.Calls.{Call, clock, modulator, frame, after, Kind, of_clock, of_modulator, keys_of, entries_of, Told, refusal, named, done, told, Target, entry, none, all, clock_target, modulator_target, target_of}
use Rattle.laws.proofs.lemmas.Cases.{cond_case, Alive, found_lem, added_lem, turned_slots, turned_to, frame_case}

-- the answer gives no id of this kind
abbrev Unnamed : Kind → Told → Type 0
Unnamed k o = (i g : ℕ) → o ≡ named k i g → ⊥

-- what a call with this target and this answer makes of the keys and the entries of the table of kind k
pub data Deed {A : Type 0} (k : Kind) (ks : List Key) (es : List A) : Target → Told → List Key → List A → Type 0 where
  leaves : (a : Target) (o : Told) → Unnamed k o → Deed k ks es a o ks es
  changes : (i g : ℕ) (x : A) → lives_in ks i g ≡ true → Deed k ks es (entry k i g) done ks (set es i x)
  removes : (i g : ℕ) → lives_in ks i g ≡ true → Deed k ks es (entry k i g) done (set ks i (left_at g)) es
  adds : (i g : ℕ) (x : A) → free_of 0 ks ≡ room_at i g → Deed k ks es none (named k i g) (set ks i (taken_at g)) (set es i x)
  turns : (fs : List A) → Deed k ks es all done ks fs

-- ---- answers without an id

unnamed_done : (k : Kind) → Unnamed k done
unnamed_done k i g e = cc

unnamed_refusal : (k : Kind) (n : ℕ) → Unnamed k (refusal n)
unnamed_refusal k n i g e = cc

unnamed_number : (k : Kind) (n : ℕ) → Unnamed k (by_number n)
unnamed_number k n = cond_case (Unnamed k) done (refusal n) (unnamed_done k) (unnamed_refusal k n) (eqb n 0)

-- what is read is a value or a refusal
unnamed_read : {A : Type 0} (k : Kind) (f : A → Given) → ((x : A) → Unnamed k (accepted (f x))) → (a : Answer A) → Unnamed k (on_accepted f a)
unnamed_read k f h (accepted x) = h x
unnamed_read k f h (refused n) = unnamed_refusal k n

-- the answer of a call on one table gives no id of the other
unnamed_modulator : (t : Clocks) (c : ClockCommand) → Unnamed of_modulator (run_clock_of t c).answer
unfolding run_clock_of
unnamed_modulator t (clockCommand.Add v) = unnamed_read of_modulator (λ id. answers.named of_clock id.slot id.generation) (λ id i g e. cc) (clocks.add_clock_of t v).answer
unnamed_modulator t (clockCommand.Remove id) = unnamed_number of_modulator (clocks.remove_of t id).refused
unnamed_modulator t (clockCommand.Start id) = unnamed_number of_modulator (clocks.tick_on_of true t id).refused
unnamed_modulator t (clockCommand.Stop id) = unnamed_number of_modulator (clocks.tick_on_of false t id).refused
unnamed_modulator t (clockCommand.Reset id) = unnamed_number of_modulator (clocks.reset_clock_of t id).refused
unnamed_modulator t (clockCommand.SetSpeed id v w) = unnamed_number of_modulator (clocks.set_speed_of t id v w).refused
unnamed_modulator t (clockCommand.Time id) = unnamed_read of_modulator answers.time (λ x i g e. cc) (clocks.clock_time_of t id)
unnamed_modulator t (clockCommand.Ticking id) = unnamed_read of_modulator answers.flag (λ x i g e. cc) (clocks.clock_ticking_of t id)
unnamed_modulator t (clockCommand.Speed id) = unnamed_read of_modulator answers.speed (λ x i g e. cc) (clocks.clock_speed_of t id)

unnamed_clock : (t : Modulators) (c : ModulatorCommand) → Unnamed of_clock (run_modulator_of t c).answer
unfolding run_modulator_of
unnamed_clock t (modulatorCommand.AddTweener x) = unnamed_read of_clock (λ id. answers.named of_modulator id.slot id.generation) (λ id i g e. cc) (modulators.add_tweener_of t x).answer
unnamed_clock t (modulatorCommand.AddLfo b) = unnamed_read of_clock (λ id. answers.named of_modulator id.slot id.generation) (λ id i g e. cc) (modulators.add_lfo_of t b).answer
unnamed_clock t (modulatorCommand.Remove id) = unnamed_number of_clock (modulators.remove_of t id).refused
unnamed_clock t (modulatorCommand.SetTweener id x w) = unnamed_number of_clock (modulators.set_tweener_of t id x w).refused
unnamed_clock t (modulatorCommand.SetParameter id k v w) = unnamed_number of_clock (modulators.set_parameter_of t id k v w).refused
unnamed_clock t (modulatorCommand.SetWaveform id w) = unnamed_number of_clock (modulators.set_waveform_of t id w).refused
unnamed_clock t (modulatorCommand.SetPhase id x) = unnamed_number of_clock (modulators.set_phase_of t id x).refused
unnamed_clock t (modulatorCommand.Value id) = unnamed_read of_clock answers.value (λ x i g e. cc) (modulators.modulator_value_of t id)

-- ---- calls on clocks

module _ (t : Clocks) where
  abbrev ClockDeed : Target → Left Clocks → Type 0
  ClockDeed a r = Deed of_clock t.keys t.clocks a r.answer r.table.keys r.table.clocks

  clock_refused : (a : Target) (n : ℕ) → ClockDeed a (clockRuns.done_as (refused_call clocks.clock_table t n))
  clock_refused a n = leaves a (by_number n) (unnamed_number of_clock n)

  module _ (id : ClockId) where
    abbrev OnClock : ClockDone → Type 0
    OnClock r = ClockDeed (entry of_clock id.slot id.generation) (clockRuns.done_as r)

    on_clock : (f : ℕ → Clock → ClockDone) → (Alive clocks.clock_table t id → (c : Clock) → OnClock (f id.slot c)) → OnClock (on_found clocks.clock_table t (where_is clocks.clock_table t id) f)
    on_clock f h = found_lem clocks.clock_table t id OnClock f (λ n z. clock_refused _ n) h

    -- changed where a number is 0, and refused by it elsewhere
    clock_changed : (n : ℕ) (c : Clock) → Alive clocks.clock_table t id → OnClock (cond (eqb n 0) (changed clocks.clock_table t id.slot c) (refused_call clocks.clock_table t n))
    clock_changed n c l =
        cond_case OnClock (changed clocks.clock_table t id.slot c) (refused_call clocks.clock_table t n)
        (changes id.slot id.generation c l) (clock_refused _ n) (eqb n 0)

  clock_added : (v : Value ClockSpeed) → ClockDeed none (clockRuns.added_as (clocks.add_clock_of t v))
  unfolding clocks.add_clock_of
  clock_added v =
      added_lem clocks.clock_table t (value_faults speed_tweens v) (new_clock v) (λ r. ClockDeed none (clockRuns.added_as r))
      (λ n z. leaves none (refusal n) (unnamed_refusal of_clock n)) (λ i g z e. adds i g (new_clock v) e)

  clock_deed : (c : ClockCommand) → ClockDeed (clock_target c) (run_clock_of t c)
  unfolding run_clock_of clocks.remove_of clocks.tick_on_of clocks.reset_clock_of clocks.set_speed_of
  clock_deed (clockCommand.Add v) = clock_added v
  clock_deed (clockCommand.Remove id) = on_clock id (λ i c. freed clocks.clock_table t i id.generation) (λ l c. removes id.slot id.generation l)
  clock_deed (clockCommand.Start id) = on_clock id (λ i c. changed clocks.clock_table t i (ticking_of true c)) (λ l c. changes id.slot id.generation (ticking_of true c) l)
  clock_deed (clockCommand.Stop id) = on_clock id (λ i c. changed clocks.clock_table t i (ticking_of false c)) (λ l c. changes id.slot id.generation (ticking_of false c) l)
  clock_deed (clockCommand.Reset id) = on_clock id (λ i c. changed clocks.clock_table t i (reset_of c)) (λ l c. changes id.slot id.generation (reset_of c) l)
  clock_deed (clockCommand.SetSpeed id v w) = on_clock id (λ i c. clocks.by_set t i c (try_set_of speed_tweens c.speed v w)) (λ l c.
      let s = try_set_of speed_tweens c.speed v w in
      clock_changed id s.refused (sped_of s.parameter c) l)
  clock_deed (clockCommand.Time id) = leaves none _ (unnamed_read of_clock answers.time (λ x i g e. cc) (clocks.clock_time_of t id))
  clock_deed (clockCommand.Ticking id) = leaves none _ (unnamed_read of_clock answers.flag (λ x i g e. cc) (clocks.clock_ticking_of t id))
  clock_deed (clockCommand.Speed id) = leaves none _ (unnamed_read of_clock answers.speed (λ x i g e. cc) (clocks.clock_speed_of t id))

-- ---- calls on modulators

module _ (t : Modulators) where
  abbrev ModulatorDeed : Target → Left Modulators → Type 0
  ModulatorDeed a r = Deed of_modulator t.keys t.slots a r.answer r.table.keys r.table.slots

  modulator_refused : (a : Target) (n : ℕ) → ModulatorDeed a (modulatorRuns.done_as (refused_call modulators.modulator_table t n))
  modulator_refused a n = leaves a (by_number n) (unnamed_number of_modulator n)

  -- the modulator changed where a number is 0, and refused by it elsewhere
  abbrev set_or : ℕ → Modulator → ℕ → ModulatorDone
  set_or n m i = cond (eqb n 0) (modulators.changed_to t i m) (refused_call modulators.modulator_table t n)

  abbrev set_lfo : (Lfo → ℕ) → (Lfo → Modulator) → ℕ → Modulator → ModulatorDone
  set_lfo n to i m = modulators.on_lfo t m (λ old. set_or (n old) (to old) i)

  abbrev set_tweener : ℕ → (Tweener → Modulator) → ℕ → Modulator → ModulatorDone
  set_tweener n to i m = modulators.on_tweener t m (λ old. set_or n (to old) i)

  module _ (id : ModulatorId) where
    abbrev OnModulator : ModulatorDone → Type 0
    OnModulator r = ModulatorDeed (entry of_modulator id.slot id.generation) (modulatorRuns.done_as r)

    abbrev ModulatorAlive : Type 0
    ModulatorAlive = Alive modulators.modulator_table t id

    on_modulator_lem : (f : ℕ → Modulator → ModulatorDone) → (ModulatorAlive → (m : Modulator) → OnModulator (f id.slot m)) → OnModulator (modulators.on_modulator t (where_is modulators.modulator_table t id) f)
    on_modulator_lem f h = found_lem modulators.modulator_table t id OnModulator (λ i s. f i s.modulator) (λ n z. modulator_refused _ n) (λ l s. h l s.modulator)

    modulator_changed : (n : ℕ) (m : Modulator) → ModulatorAlive → OnModulator (set_or n m id.slot)
    modulator_changed n m l =
        cond_case OnModulator (modulators.changed_to t id.slot m) (refused_call modulators.modulator_table t n)
        (changes id.slot id.generation (modulators.slot_of m) l) (modulator_refused _ n) (eqb n 0)

    tweener_changed : (n : ℕ) (to : Tweener → Modulator) → OnModulator (modulators.on_modulator t (where_is modulators.modulator_table t id) (set_tweener n to))
    tweener_changed n to = on_modulator_lem (set_tweener n to) go
      where
        go : ModulatorAlive → (m : Modulator) → OnModulator (set_tweener n to id.slot m)
        go l (OfTweener old) = modulator_changed n (to old) l
        go l (OfLfo old) = modulator_refused _ NEVER_ISSUED

    lfo_changed : (n : Lfo → ℕ) (to : Lfo → Modulator) → OnModulator (modulators.on_modulator t (where_is modulators.modulator_table t id) (set_lfo n to))
    lfo_changed n to = on_modulator_lem (set_lfo n to) go
      where
        go : ModulatorAlive → (m : Modulator) → OnModulator (set_lfo n to id.slot m)
        go l (OfTweener old) = modulator_refused _ NEVER_ISSUED
        go l (OfLfo old) = modulator_changed (n old) (to old) l

  modulator_added : (f : Faults) (m : Modulator) → ModulatorDeed none (modulatorRuns.added_as (modulators.put_of t f m))
  modulator_added f m =
      added_lem modulators.modulator_table t f (modulators.slot_of m) (λ r. ModulatorDeed none (modulatorRuns.added_as r))
      (λ n z. leaves none (refusal n) (unnamed_refusal of_modulator n)) (λ i g z e. adds i g (modulators.slot_of m) e)

  modulator_deed : (c : ModulatorCommand) → ModulatorDeed (modulator_target c) (run_modulator_of t c)
  unfolding run_modulator_of modulators.add_tweener_of modulators.add_lfo_of modulators.remove_of modulators.set_tweener_of modulators.set_parameter_of modulators.set_waveform_of modulators.set_phase_of
  modulator_deed (modulatorCommand.AddTweener x) = modulator_added (float_faults x) (OfTweener (new_tweener x))
  modulator_deed (modulatorCommand.AddLfo b) = modulator_added (builder_faults b) (OfLfo (new_lfo b))
  modulator_deed (modulatorCommand.Remove id) = on_modulator_lem id (λ i m. freed modulators.modulator_table t i id.generation) (λ l m. removes id.slot id.generation l)
  modulator_deed (modulatorCommand.SetTweener id x w) = tweener_changed id (first_fault (tweener_faults x w)) (λ old. OfTweener (tweener_to_of x w old))
  modulator_deed (modulatorCommand.SetParameter id k v w) = lfo_changed id (λ old. first_fault (target_faults float_tweens v w)) (λ old. OfLfo (modulators.parameter_by old k v w))
  modulator_deed (modulatorCommand.SetWaveform id w) = lfo_changed id (λ old. first_fault (wave_faults w)) (λ old. OfLfo (with_wave_of w old))
  modulator_deed (modulatorCommand.SetPhase id x) = lfo_changed id (λ old. first_fault (float_faults x)) (λ old. OfLfo (with_phase_of x old))
  modulator_deed (modulatorCommand.Value id) = leaves none _ (unnamed_read of_modulator answers.value (λ x i g e. cc) (modulators.modulator_value_of t id))

-- ---- frames

module _ (k : Kind) (st : Station) where
  abbrev FrameDeed : Framed → Type 0
  FrameDeed r = Deed k (keys_of k st) (entries_of k st) all (by_number r.refused) (keys_of k r.station) (entries_of k r.station)

-- turns leave the keys
turned_deed :
    (k : Kind) (st : Station) (cs : List Clock) (ss : List Slot)
    → let s : Station = record { clocks = record { keys = st.clocks.keys; clocks = cs }; modulators = turned_to st ss } in
    Deed k (keys_of k st) (entries_of k st) all done (keys_of k s) (entries_of k s)
turned_deed of_clock st cs ss = turns cs
turned_deed of_modulator st cs ss = turns ss

frame_deed : (k : Kind) (st : Station) (dt : Float) → FrameDeed k st (frame_of st dt)
frame_deed k st dt = frame_case st dt (FrameDeed k st) (λ h cs rs e. turned_deed k st cs (turned_slots st dt)) (λ n y. leaves all _ (unnamed_number k n))

-- ---- every call

pub deed : (k : Kind) (st : Station) (c : Call) → Deed k (keys_of k st) (entries_of k st) (target_of c) (told st c) (keys_of k (after st c)) (entries_of k (after st c))
deed of_clock st (clock c) = clock_deed st.clocks c
deed of_clock st (modulator c) = leaves _ _ (unnamed_clock st.modulators c)
deed of_clock st (frame dt) = frame_deed of_clock st dt
deed of_modulator st (clock c) = leaves _ _ (unnamed_modulator st.clocks c)
deed of_modulator st (modulator c) = modulator_deed st.modulators c
deed of_modulator st (frame dt) = frame_deed of_modulator st dt
