-- A refused call leaves what it was given as it was: of each call on a station, and of each change and advance of a
-- parameter; and its number is not 0. 01, "Refusal numbers"; RULES, refusal and ok. Assumes nothing.
use Prim.Native.Nat.{ℕ}
use native.Mathlib.Omega.{arith}
use mathlib.Core.Path.{◌≡◌, refl, sym, subst}
use mathlib.Core.Bool.{Bool, true, false, cond}
use mathlib.Core.List.{List}
use lib.Dec.{eqb}
use borrow.Author.Tests.{eqb-true, eqb-false}
use lib.Ieee.{Float}
use Rattle.std.specs.Prelude.{Option}
use Rattle.ids.specs.Tables.{Table, read_found, where_is, added_to}
use Rattle.ids.specs.declared.Key.{Key}
use Rattle.ids.proofs.Places.{found_case}
use Rattle.judge.specs.Answer.{Answer, accepted, refused, number_told, on_accepted}
use Rattle.judge.specs.Judge.{float_faults, dt_faults, first_fault, decided}
use Rattle.judge.specs.Numbers.{NEVER_ISSUED}
use Rattle.judge.specs.declared.Faults.{Faults}
use Rattle.times.specs.declared.start_time.When.{When}
use Rattle.times.specs.declared.tween.Tween.{Tween}
use Rattle.values.specs.Tweenables.{Tweens}
use Rattle.values.specs.declared.value.Value.{Value}
use Rattle.parameter.specs.Parameters.{Set, Advanced, set_faults, try_set_of, try_update_of}
use Rattle.parameter.specs.declared.Parameter.{Parameter}
use Rattle.values.specs.Speeds.{speed_tweens}
use Rattle.values.specs.Values.{value_faults}
use Rattle.clock.specs.OneClock.{new_clock}
use Rattle.clock.specs.declared.Clock.{Clock}
use Rattle.clock_table.specs.ClockTables as clocks
use Rattle.clock_table.specs.declared.Clocks.{Clocks}
use Rattle.modulator.specs.Tweeners.{new_tweener}
use Rattle.modulator.specs.Lfos.{builder_faults, new_lfo}
use Rattle.modulator_table.specs.ModulatorTables as modulators
use Rattle.modulator_table.specs.declared.Modulator.TheVariants.{OfTweener, OfLfo}
use Rattle.modulator_table.specs.declared.Modulators.{Modulators}
use Rattle.modulator_table.specs.declared.Slot.{Slot}
use Rattle.commands.specs.Answers.{by_number}
use Rattle.commands.specs.ClockCommands.{run_clock_of}
use Rattle.commands.specs.ModulatorCommands.{run_modulator_of}
use Rattle.commands.specs.declared.clock_command.ClockCommand.{ClockCommand}
use Rattle.commands.specs.declared.clock_command.ClockCommand.TheVariants as clockCommand
use Rattle.commands.specs.declared.modulator_command.ModulatorCommand.{ModulatorCommand}
use Rattle.commands.specs.declared.modulator_command.ModulatorCommand.TheVariants as modulatorCommand
use Rattle.station.specs.Frames.{frame_of}
use Rattle.station.specs.declared.Station.{Station}
use Rattle.laws.specs.Calls.{Call, clock, modulator, frame, after, Kind, of_clock, of_modulator, keys_of, entries_of, Told, refusal, done, told, call_number, Target}
use Rattle.laws.proofs.lemmas.Cases.{read_case, added_lem}
use Rattle.laws.proofs.lemmas.Deeds.{Deed, leaves, changes, removes, adds, turns, deed}

-- ---- calls on a station

unmoved :
    {A : Type 0} {k : Kind} {ks ls : List Key} {es fs : List A} {a : Target} {o : Told} → Deed k ks es a o ls fs → (n : ℕ) → o ≡ refusal n
    → (ls ≡ ks) × (fs ≡ es)
unmoved (leaves a o u) n e = (refl, refl)
unmoved (changes i g x l) n e = absurd (cc)
unmoved (removes i g l) n e = absurd (cc)
unmoved (adds i g x f) n e = absurd (cc)
unmoved (turns fs) n e = absurd (cc)

same_station : (s t : Station) → ((k : Kind) → (keys_of k s ≡ keys_of k t) × (entries_of k s ≡ entries_of k t)) → s ≡ t
same_station s t h = go s.clocks.keys s.clocks.clocks s.modulators.keys s.modulators.slots (h of_clock).0 (h of_clock).1 (h of_modulator).0 (h of_modulator).1
  where
    go :
        (ks : List Key) (cs : List Clock) (ls : List Key) (ss : List Slot) → ks ≡ t.clocks.keys → cs ≡ t.clocks.clocks → ls ≡ t.modulators.keys
        → ss ≡ t.modulators.slots → record { clocks = record { keys = ks; clocks = cs }; modulators = record { keys = ls; slots = ss } } ≡ t
    go ks cs ls ss a b c d = rw (a, b, c, d)

-- by the answer, and by its number
pub refusal_leaves : (st : Station) (c : Call) (n : ℕ) → told st c ≡ refusal n → after st c ≡ st
refusal_leaves st c n e = same_station (after st c) st (λ k. unmoved (deed k st c) n e)

pub refused_leaves : (st : Station) (c : Call) → (call_number st c ≡ 0 → ⊥) → after st c ≡ st
refused_leaves st c n = go (told st c) refl n
  where
    go : (o : Told) → told st c ≡ o → (number_told o ≡ 0 → ⊥) → after st c ≡ st
    go (refused m) e n = refusal_leaves st c m e
    go (accepted x) e n = absurd (n refl)

-- ---- a refusal's number

-- an answer that is a refusal has a number of the table, and not 0, which says OK: RULES, ok
abbrev pub Numbered : {A : Type 0} → Answer A → Type 0
Numbered (accepted x) = Unit {0}
Numbered (refused n) = n ≡ 0 → ⊥

pub numbered_decided : {A : Type 0} (n : ℕ) (x : A) → Numbered (decided n (accepted x) refused)
numbered_decided n x = go (eqb n 0) (eqb-false n 0)
  where
    go : (b : Bool) → (b ≡ false → n ≡ 0 → ⊥) → Numbered (cond b (accepted x) (refused n))
    go true h = tt
    go false h = h refl

-- a call that is done or refused by a number tells that number
pub told_number : (n : ℕ) → number_told (by_number n) ≡ n
told_number n = go (eqb n 0) (eqb-true n 0)
  where
    go : (b : Bool) → (b ≡ true → n ≡ 0) → number_told (cond b done (refusal n)) ≡ n
    go true h = sym (h refl)
    go false h = refl

numbered_on : {A B : Type 0} (f : A → B) (a : Answer A) → Numbered a → Numbered (on_accepted f a)
numbered_on f (accepted x) h = tt
numbered_on f (refused n) h = h

module _ {T E I D : Type 0} (k : Table T E I D) (t : T) where
  pub numbered_read : {A : Type 0} (id : I) (f : E → A) → Numbered (read_found k t (where_is k t id) f)
  numbered_read id f =
      found_case (k.keys_of t) (k.slot_in id) (k.generation_in id) (λ w. Numbered (read_found k t w f)) (λ n z l. z) (λ l.
      read_case Numbered (refused NEVER_ISSUED) (λ e. accepted (f e)) (λ z. omega arith) (λ e. tt) (k.entries_of t) (k.slot_in id))

  numbered_add : (f : Faults) (e : E) → Numbered (added_to k t f e).answer
  numbered_add f e = added_lem k t f e (λ r. Numbered r.answer) (λ n z. z) (λ i g z q. tt)

clocks_numbered : (t : Clocks) (c : ClockCommand) → Numbered (run_clock_of t c).answer
unfolding run_clock_of clocks.add_clock_of clocks.clock_time_of clocks.clock_ticking_of clocks.clock_speed_of
clocks_numbered t (clockCommand.Add v) = numbered_on _ (clocks.add_clock_of t v).answer (numbered_add clocks.clock_table t (value_faults speed_tweens v) (new_clock v))
clocks_numbered t (clockCommand.Remove id) = numbered_decided (clocks.remove_of t id).refused _
clocks_numbered t (clockCommand.Start id) = numbered_decided (clocks.tick_on_of true t id).refused _
clocks_numbered t (clockCommand.Stop id) = numbered_decided (clocks.tick_on_of false t id).refused _
clocks_numbered t (clockCommand.Reset id) = numbered_decided (clocks.reset_clock_of t id).refused _
clocks_numbered t (clockCommand.SetSpeed id v w) = numbered_decided (clocks.set_speed_of t id v w).refused _
clocks_numbered t (clockCommand.Time id) = numbered_on _ (clocks.clock_time_of t id) (numbered_read clocks.clock_table t id (clocks.time_of id))
clocks_numbered t (clockCommand.Ticking id) = numbered_on _ (clocks.clock_ticking_of t id) (numbered_read clocks.clock_table t id (λ c. c.ticking))
clocks_numbered t (clockCommand.Speed id) = numbered_on _ (clocks.clock_speed_of t id) (numbered_read clocks.clock_table t id (λ c. c.speed.raw))

modulators_numbered : (t : Modulators) (c : ModulatorCommand) → Numbered (run_modulator_of t c).answer
unfolding run_modulator_of modulators.add_tweener_of modulators.add_lfo_of modulators.modulator_value_of
modulators_numbered t (modulatorCommand.AddTweener x) = numbered_on _ (modulators.add_tweener_of t x).answer (numbered_add modulators.modulator_table t (float_faults x) (modulators.slot_of (OfTweener (new_tweener x))))
modulators_numbered t (modulatorCommand.AddLfo b) = numbered_on _ (modulators.add_lfo_of t b).answer (numbered_add modulators.modulator_table t (builder_faults b) (modulators.slot_of (OfLfo (new_lfo b))))
modulators_numbered t (modulatorCommand.Remove id) = numbered_decided (modulators.remove_of t id).refused _
modulators_numbered t (modulatorCommand.SetTweener id x w) = numbered_decided (modulators.set_tweener_of t id x w).refused _
modulators_numbered t (modulatorCommand.SetParameter id k v w) = numbered_decided (modulators.set_parameter_of t id k v w).refused _
modulators_numbered t (modulatorCommand.SetWaveform id w) = numbered_decided (modulators.set_waveform_of t id w).refused _
modulators_numbered t (modulatorCommand.SetPhase id x) = numbered_decided (modulators.set_phase_of t id x).refused _
modulators_numbered t (modulatorCommand.Value id) = numbered_on _ (modulators.modulator_value_of t id) (numbered_read modulators.modulator_table t id modulators.slot_value)

pub call_numbered : (st : Station) (c : Call) → Numbered (told st c)
call_numbered st (clock c) = clocks_numbered st.clocks c
call_numbered st (modulator c) = modulators_numbered st.modulators c
call_numbered st (frame dt) = numbered_decided (frame_of st dt).refused _

pub refusal_numbered : (st : Station) (c : Call) (n : ℕ) → told st c ≡ refusal n → n ≡ 0 → ⊥
refusal_numbered st c n e = subst Numbered e (call_numbered st c)

-- ---- parameters

-- of two results, the one that is not refused has the number 0, and the other one holds what was given
kept :
    {R P : Type 0} (number : R → ℕ) (part : R → P) (p : P) (x y : R) → number x ≡ 0 → part y ≡ p → (b : Bool) → (number (cond b x y) ≡ 0 → ⊥)
    → part (cond b x y) ≡ p
kept number part p x y h e true n = absurd (n h)
kept number part p x y h e false n = e

-- whatever kind its values are
module _ {A : Type 0} (k : Tweens A) (p : Parameter A) where
  pub change_leaves : (v : Value A) (t : Tween) → ((try_set_of k p v t).refused ≡ 0 → ⊥) → (try_set_of k p v t).parameter ≡ p
  unfolding try_set_of
  change_leaves v t n = kept (λ (r : Set A). r.refused) (λ (r : Set A). r.parameter) p _ _ refl refl (eqb (first_fault (set_faults k p v t)) 0) n

  pub advance_leaves : (dt : Float) (w : When) (i : Option Float) → ((try_update_of k p dt w i).refused ≡ 0 → ⊥) → (try_update_of k p dt w i).parameter ≡ p
  unfolding try_update_of
  advance_leaves dt w i n = kept (λ (r : Advanced A). r.refused) (λ (r : Advanced A). r.parameter) p _ _ refl refl (eqb (first_fault (dt_faults dt)) 0) n
