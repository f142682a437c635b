-- The laws on names over runs of calls: an id once dead stays dead, no two adds of a run give the same id, and
-- generation 0 never lives. `named_new`, `named_lives`, `two_names` and `zero_never` stand for a reader: no proof cites
-- them. RULES, apart. Assumes nothing.
use Prim.Native.Nat.{ℕ}
use mathlib.Core.Path.{◌≡◌, refl, sym, ◌∙◌}
use mathlib.Core.Bool.{true, false}
use mathlib.Core.List.{List, [], ◌∷◌}
use lib.ListN.{set}
use lib.Ieee.{Float}
use Rattle.ids.specs.Keys.{room_at, free_of, taken_at, Spent, Numbered, Later, same, added, removed}
use Rattle.ids.specs.Tables.{freed}
use Rattle.ids.specs.declared.Key.{Key}
use Rattle.judge.specs.Answer.{number_told}
use Rattle.ids.proofs.Names as names
use Rattle.times.specs.declared.time.ClockId.{ClockId}
use Rattle.values.specs.declared.value.ModulatorId.{ModulatorId}
use Rattle.clock_table.specs.ClockTables as clocks
use Rattle.clock_table.specs.ClockTables.{ClockDone}
use Rattle.modulator_table.specs.ModulatorTables as modulators
use Rattle.modulator_table.specs.ModulatorTables.{ModulatorDone}
use Rattle.commands.specs.ClockCommands as clockRuns
use Rattle.commands.specs.ClockCommands.{run_clock_of}
use Rattle.commands.specs.ModulatorCommands as modulatorRuns
use Rattle.commands.specs.ModulatorCommands.{run_modulator_of}
use Rattle.commands.specs.declared.clock_command.ClockCommand.TheVariants as clockCommand
use Rattle.commands.specs.declared.modulator_command.ModulatorCommand.TheVariants as modulatorCommand
use Rattle.station.specs.Stations.{fresh_station}
use Rattle.station.specs.declared.Station.{Station}
use Rattle.laws.specs.Calls.{Call, clock, modulator, frame, after, after_all, Kind, of_clock, of_modulator, keys_of, lives, Told, named, told, call_number, Target, all}
use Rattle.laws.proofs.Refusals.{told_number}
use Rattle.laws.proofs.lemmas.Cases.{found_lem}
use Rattle.laws.proofs.lemmas.Deeds.{Deed, leaves, changes, removes, adds, turns, deed}

-- ---- one call

joined : {ks ls ms : List Key} → Later ks ls → Later ls ms → Later ks ms
joined same m = m
joined (added i g e l) m = added i g e (joined l m)
joined (removed i g e l) m = removed i g e (joined l m)

-- what an answer with an id says of the keys: they had room there, and the id is in them
pub record Took (ks ls : List Key) (i g : ℕ) : Type 0 where
  pub room : free_of 0 ks ≡ room_at i g
  pub keys : ls ≡ set ks i (taken_at g)

module _ {A : Type 0} {k : Kind} {ks : List Key} {es : List A} where
  deed_later : {ls : List Key} {fs : List A} {a : Target} {o : Told} → Deed k ks es a o ls fs → Later ks ls
  deed_later (leaves a o u) = same
  deed_later (changes i g x l) = same
  deed_later (removes i g l) = removed i g l same
  deed_later (adds i g x e) = added i g e same
  deed_later (turns fs) = same

  deed_took : {ls : List Key} {fs : List A} {a : Target} {o : Told} → Deed k ks es a o ls fs → (i g : ℕ) → o ≡ named k i g → Took ks ls i g
  deed_took (leaves a o u) i g e = absurd (u i g e)
  deed_took (changes j h x l) i g e = absurd (cc)
  deed_took (removes j h l) i g e = absurd (cc)
  deed_took (adds j h x f) i g e = record { room = cc; keys = cc }
  deed_took (turns fs) i g e = absurd (cc)

  deed_turned : {ls : List Key} {fs : List A} {a : Target} {o : Told} → Deed k ks es a o ls fs → a ≡ all → ls ≡ ks
  deed_turned (leaves a o u) e = refl
  deed_turned (changes i g x l) e = refl
  deed_turned (removes i g l) e = absurd (cc)
  deed_turned (adds i g x f) e = absurd (cc)
  deed_turned (turns fs) e = refl

module _ (k : Kind) (st : Station) where
  -- a call adds an id, removes one or leaves them all
  pub call_later : (c : Call) → Later (keys_of k st) (keys_of k (after st c))
  call_later c = deed_later (deed k st c)

  pub frame_keys : (dt : Float) → keys_of k (after st (frame dt)) ≡ keys_of k st
  frame_keys dt = deed_turned (deed k st (frame dt)) refl

  module _ (c : Call) (i g : ℕ) (e : told st c ≡ named k i g) where
    pub took : Took (keys_of k st) (keys_of k (after st c)) i g
    took = deed_took (deed k st c) i g e

    -- the id that an add gives did not live before
    pub named_new : lives k st i g ≡ false
    named_new = names.add_new (keys_of k st) i g took.room

    -- and lives right after
    pub named_lives : lives k (after st c) i g ≡ true
    named_lives = rw took.keys (names.add_lives (keys_of k st) i g took.room)

-- an accepted removal ends its id, which lived until then
module _ (st : Station) where
  pub clock_removed :
      (id : ClockId) → call_number st (clock (clockCommand.Remove id)) ≡ 0
      → (lives of_clock st id.slot id.generation ≡ true) × Spent (keys_of of_clock (after st (clock (clockCommand.Remove id)))) id.slot id.generation
  unfolding run_clock_of clocks.remove_of
  clock_removed id =
      found_lem clocks.clock_table st.clocks id Ended (λ i c. freed clocks.clock_table st.clocks i id.generation) (λ n y z. absurd (y (sym (told_number n) ∙ z)))
      (λ l c z. (l, names.remove_own_spent st.clocks.keys id.slot id.generation l))
    where
      Ended : ClockDone → Type 0
      Ended r = number_told (clockRuns.done_as r).answer ≡ 0 → (lives of_clock st id.slot id.generation ≡ true) × Spent r.table.keys id.slot id.generation

  pub modulator_removed :
      (id : ModulatorId) → call_number st (modulator (modulatorCommand.Remove id)) ≡ 0
      → (lives of_modulator st id.slot id.generation ≡ true) × Spent (keys_of of_modulator (after st (modulator (modulatorCommand.Remove id)))) id.slot id.generation
  unfolding run_modulator_of modulators.remove_of
  modulator_removed id =
      found_lem modulators.modulator_table st.modulators id Ended (λ i s. freed modulators.modulator_table st.modulators i id.generation) (λ n y z. absurd (y (sym (told_number n) ∙ z)))
      (λ l s z. (l, names.remove_own_spent st.modulators.keys id.slot id.generation l))
    where
      Ended : ModulatorDone → Type 0
      Ended r = number_told (modulatorRuns.done_as r).answer ≡ 0 → (lives of_modulator st id.slot id.generation ≡ true) × Spent r.table.keys id.slot id.generation

-- ---- a run

pub run_later : (k : Kind) (st : Station) (cs : List Call) → Later (keys_of k st) (keys_of k (after_all st cs))
unfolding after_all
run_later k st [] = same
run_later k st (c ∷ cs) = joined (call_later k st c) (run_later k (after st c) cs)

module _ (k : Kind) (st : Station) where
  -- an id that is spent stays so, and does not live
  pub run_spent : (i g : ℕ) → Spent (keys_of k st) i g → (cs : List Call) → Spent (keys_of k (after_all st cs)) i g
  run_spent i g s cs = names.later_spent (run_later k st cs) i g s

  -- an id that lived and is dead never lives again: RULES, apart
  pub never_again :
      (i g : ℕ) → lives k st i g ≡ true → (cs : List Call) → lives k (after_all st cs) i g ≡ false → (ds : List Call)
      → lives k (after_all (after_all st cs) ds) i g ≡ false
  never_again i g l cs d ds = names.once_dead i g l (run_later k st cs) d (run_later k (after_all st cs) ds)

  -- two accepted adds, whatever calls stand between, never give the same id: RULES, generation
  pub two_names :
      (c : Call) (i g : ℕ) → told st c ≡ named k i g → (cs : List Call) (d : Call) (j h : ℕ) → told (after_all (after st c) cs) d ≡ named k j h → j ≡ i
      → h ≡ g → ⊥
  two_names c i g e cs d j h f =
      let a : Took (keys_of k st) (keys_of k (after st c)) i g = took k st c i g e in
      let b = took k (after_all (after st c) cs) d j h f in
      names.two_adds (keys_of k st) i g j h a.room (rw a.keys at (run_later k (after st c) cs)) b.room

-- ---- from the beginning

fresh_numbered : (k : Kind) → Numbered (keys_of k fresh_station)
fresh_numbered of_clock = names.start_numbered 16
fresh_numbered of_modulator = names.start_numbered 16

module _ (k : Kind) (cs : List Call) where
  pub run_numbered : Numbered (keys_of k (after_all fresh_station cs))
  run_numbered = names.later_numbered (run_later k fresh_station cs) (fresh_numbered k)

  -- generations count from 1: RULES, generation
  pub zero_never : (i : ℕ) → lives k (after_all fresh_station cs) i 0 ≡ false
  zero_never i = names.zero_dead (keys_of k (after_all fresh_station cs)) run_numbered i
