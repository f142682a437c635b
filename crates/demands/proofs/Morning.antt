-- Names that cannot be shared: two ids that live are apart, what is done with one leaves every other clock as it was,
-- an id that died stays dead, and is told so, and a slot whose generations are used up holds nothing again. 01, "Names
-- that cannot be shared"; 02, dead or never ours. RULES, apart and gone. Assumes nothing.
use Prim.Native.Nat.{ℕ, zero, suc, ◌≤◌}
use native.Mathlib.Decide.{ℕ_discrete}
use native.Mathlib.Omega.{arith}
use mathlib.Core.Path.{◌≡◌, refl, sym, subst, ◌∙◌}
use mathlib.Core.Logic.{◌⊎◌, inl, inr}
use mathlib.Core.Bool.{Bool, true, false, ◌&&◌, false≢true}
use mathlib.Core.List.{List, [], ◌∷◌, map}
use lib.ListN.{set}
use lib.Dec.{eqb}
use lib.Ieee.{Float}
use borrow.Author.Tests.{eqb-true, eqb-false}
use Rattle.ids.specs.Keys.{used_at, generation_at, gone, taken_at, left_at, Spent, Later, same, added, removed}
use Rattle.ids.specs.Lists.{read_at}
use Rattle.ids.specs.declared.Key.{Key}
use Rattle.ids.proofs.Names.{later_rises, later_numbered}
use Rattle.ids.proofs.Standings.{given_gone, living_given}
use Rattle.ids.proofs.Places.{read_set_other, lives_parts, gives}
use Rattle.judge.specs.Answer.{accepted}
use Rattle.judge.specs.Numbers.{«GONE»}
use Rattle.times.specs.declared.start_time.When.TheVariants.{Never}
use Rattle.times.specs.declared.time.ClockId.{ClockId}
use Rattle.values.specs.declared.value.ModulatorId.{ModulatorId}
use Rattle.info.specs.Infos.{due_of, when_to_start_of}
use Rattle.clock.specs.declared.ClockInfo.{ClockInfo}
use Rattle.clock.specs.OneClock.{info_of}
use Rattle.clock_table.specs.ClockTables.{time_of, clock_time_of, clock_ticking_of, clock_speed_of}
use Rattle.clock.specs.declared.Clock.{Clock}
use Rattle.modulator_table.specs.declared.Modulator.{Modulator}
use Rattle.commands.specs.declared.clock_command.ClockCommand.{ClockCommand}
use Rattle.commands.specs.declared.clock_command.ClockCommand.TheVariants as clocks
use Rattle.commands.specs.declared.modulator_command.ModulatorCommand.TheVariants as modulators
use Rattle.station.specs.Stations.{fresh_station, info_in}
use Rattle.station.specs.declared.Station.{Station}
use Rattle.report.specs.Reports.{into_buffer, report_text, report_of}
use Rattle.laws.specs.Calls.{Call, clock, modulator, after, after_all, Kind, of_clock, of_modulator, keys_of, lives, standing, call_number, entry, clock_target, target_of, Touches}
use Rattle.laws.proofs.Apart.{two_slots, apart}
use Rattle.laws.proofs.Issued.{gone_stays}
use Rattle.laws.proofs.lemmas.Entries.{Holds, holds_read, lives_used, stays_held, Names, names_of, names_where, names_read}
use Rattle.laws.proofs.Lives.{clock_removed, modulator_removed, run_later, run_spent, never_again, run_numbered}
use Rattle.demands.specs.Entries.{Lent, Tables, Entry, number_given}
use Rattle.demands.specs.Events.{clock_in}
use Rattle.demands.specs.Log.{Named, any_of, kind_of, named_by, IsGone}
use Rattle.demands.specs.Served.{awaited}
use Rattle.demands.proofs.Log.{run_tables, seven}

-- ---- two ids that live are in two slots

-- Of one kind, in any station at all, so in those of any run: two that live in one slot are one id: RULES, apart. A
-- clock id and a modulator id may have the same slot and generation: they name different tables. Ids that the bench's
-- `clock.gen` and `mod.gen` make come from no call of the station, and it holds of them too, as of any state.
pub one_id : (k : Kind) (st : Station) (i g h : ℕ) → lives k st i g ≡ true → lives k st i h ≡ true → g ≡ h
one_id k st i g h l m = go (ℕ_discrete g h)
  where
    go : Dec (g ≡ h) → g ≡ h
    go (yes p) = p
    go (no n) = absurd (two_slots k st i g i h l m (λ p q. n q) refl)

-- an id is its slot and its generation
id_of_lem : {I : Type 0} (make : ℕ → ℕ → I) {i j g h : ℕ} → i ≡ j → g ≡ h → make i g ≡ make j h
id_of_lem make p q = rw (p, q)

clock_id : (a b : ClockId) → a.slot ≡ b.slot → a.generation ≡ b.generation → a ≡ b
clock_id a b p q = id_of_lem (λ i g. record { slot = i; generation = g }) p q

modulator_id : (a b : ModulatorId) → a.slot ≡ b.slot → a.generation ≡ b.generation → a ≡ b
modulator_id a b p q = id_of_lem (λ i g. record { slot = i; generation = g }) p q

module _ (st : Station) where
  pub two_clocks : (a b : ClockId) → lives of_clock st a.slot a.generation ≡ true → lives of_clock st b.slot b.generation ≡ true → a.slot ≡ b.slot → a ≡ b
  two_clocks a b l m p = clock_id a b p (one_id of_clock st b.slot a.generation b.generation (rw p at l) m)

  pub two_modulators : (a b : ModulatorId) → lives of_modulator st a.slot a.generation ≡ true → lives of_modulator st b.slot b.generation ≡ true → a.slot ≡ b.slot → a ≡ b
  two_modulators a b l m p = modulator_id a b p (one_id of_modulator st b.slot a.generation b.generation (rw p at l) m)

-- ---- what is done with one id leaves the other clocks

-- the clock of the id is in t what it is in s
pub record Same (s t : Station) (id : ClockId) : Type 0 where
  -- the whole entry: whether it ticks, its state, and its speed with the ramp that it is on
  pub entry : clock_in t id ≡ clock_in s id
  -- what the calls that read it answer
  pub time : clock_time_of t.clocks id ≡ clock_time_of s.clocks id
  pub ticking : clock_ticking_of t.clocks id ≡ clock_ticking_of s.clocks id
  pub speed : clock_speed_of t.clocks id ≡ clock_speed_of s.clocks id
  -- whether a parameter that waits for a time of it is to begin
  pub due : (tick : ℕ) (g : Float) → when_to_start_of (info_in t) (awaited id tick g) ≡ when_to_start_of (info_in s) (awaited id tick g)
  -- its report: the answer, and the buffer
  pub report : (out : List ℕ) → report_of t.clocks id out ≡ report_of s.clocks id out

holds_map : {A B : Type 0} (f : A → B) (l : List A) (i : ℕ) (x : A) → Holds l i x → Holds (map f l) i (f x)
unfolding read_at
holds_map f [] i x h = absurd (cc)
holds_map f (y ∷ l) zero x h = let e : y ≡ x = cc in rw e
holds_map f (y ∷ l) (suc i) x h = holds_map f l i x h

module _ (id : ClockId) (c : Clock) where
  due_is : (st : Station) → Names st.clocks id c → (tick : ℕ) (g : Float) → when_to_start_of (info_in st) (awaited id tick g) ≡ due_of (info_of c) (awaited id tick g)
  unfolding when_to_start_of info_in
  due_is st n tick g =
      rw (names_where st.clocks id c n)
      (holds_read Never (λ (x : ClockInfo). due_of x (awaited id tick g)) (map info_of st.clocks.clocks) id.slot (info_of c) (holds_map info_of st.clocks.clocks id.slot c n.holds))

  report_is : (st : Station) → Names st.clocks id c → (out : List ℕ) → report_of st.clocks id out ≡ into_buffer out (accepted (report_text id c))
  unfolding report_of
  report_is st n out = rw (names_read st.clocks id c n (report_text id))

  same_clock : (s t : Station) → Names s.clocks id c → Names t.clocks id c → Same s t id
  unfolding clock_time_of clock_ticking_of clock_speed_of
  same_clock s t m n = record {
    entry = names_read t.clocks id c n (λ x. x) ∙ sym (names_read s.clocks id c m (λ x. x));
    time = names_read t.clocks id c n (time_of id) ∙ sym (names_read s.clocks id c m (time_of id));
    ticking = names_read t.clocks id c n (λ x. x.ticking) ∙ sym (names_read s.clocks id c m (λ x. x.ticking));
    speed = names_read t.clocks id c n (λ x. x.speed.raw) ∙ sym (names_read s.clocks id c m (λ x. x.speed.raw));
    due = λ tick g. due_is t n tick g ∙ sym (due_is s m tick g);
    report = λ out. report_is t n out ∙ sym (report_is s m out);
  }

module _ (st : Station) (b : ClockId) (c : Clock) (is : clock_in st b ≡ accepted c) where
  -- every call that does not act on it: adds, reads and calls on modulators too, accepted or refused
  pub not_acted_on : (x : Call) → (Touches (target_of x) of_clock b.slot b.generation → ⊥) → Same st (after st x) b
  not_acted_on x o =
      let n = names_of st.clocks b c is in
      same_clock b c st (after st x) n (record {
        lives = (apart of_clock st x b.slot b.generation o n.lives).alive;
        holds = stays_held of_clock st b.slot b.generation n.lives x o c n.holds;
      })

  -- A call on another id, living or dead: start, stop, reset, set the speed, remove: RULES, apart. It speaks of the
  -- moment of the call. A clock whose speed waits for another clock is touched later, in a frame, which gives every
  -- clock its turn and in which a later slot may see an earlier one.
  pub others_stay : (a : ClockId) → (a ≡ b → ⊥) → (x : ClockCommand) → clock_target x ≡ entry of_clock a.slot a.generation → Same st (after st (clock x)) b
  others_stay a o x e = not_acted_on (clock x) (rw e (λ q. o (clock_id a b (cc) (cc))))

-- ---- an id that died stays dead

module _ (k : Kind) (st : Station) (i g : ℕ) where
  -- an id that lived, and behind some calls does not, whatever calls come after: RULES, apart. There is no
  -- exception, since a slot that is used up is never given again (`used_up`). It speaks of calls of the station: what
  -- the bench's `clock.gen` and `mod.gen` write into a table is none
  pub stays_dead : lives k st i g ≡ true → (cs : List Call) → lives k (after_all st cs) i g ≡ false → (ds : List Call) → lives k (after_all (after_all st cs) ds) i g ≡ false
  stays_dead l cs d ds = never_again k st i g l cs d ds

-- an accepted removal is such a death
module _ (st : Station) where
  pub removed_clock : (id : ClockId) → call_number st (clock (clocks.Remove id)) ≡ 0 → (cs : List Call) → lives of_clock (after_all (after st (clock (clocks.Remove id))) cs) id.slot id.generation ≡ false
  removed_clock id z cs = (run_spent of_clock (after st (clock (clocks.Remove id))) id.slot id.generation (clock_removed st id z).1 cs).dead

  pub removed_modulator :
      (id : ModulatorId) → call_number st (modulator (modulators.Remove id)) ≡ 0 → (cs : List Call)
      → lives of_modulator (after_all (after st (modulator (modulators.Remove id))) cs) id.slot id.generation ≡ false
  removed_modulator id z cs = (run_spent of_modulator (after st (modulator (modulators.Remove id))) id.slot id.generation (modulator_removed st id z).1 cs).dead

-- ---- and every call that names it says so

-- Yesterday's 41: the calls cs led to a station, an accepted removal took the entry off, and any calls ds came after,
-- adds into its slot too. Every call by the id, a read and a report too, is answered 7, whatever else is wrong with it:
-- RULES, gone. A removed modulator's is so by a call for either kind.
module _ (cs ds : List Call) where
  removed_gone : (k : Kind) (c : Call) (i g : ℕ) → (lives k (after_all fresh_station cs) i g ≡ true) × Spent (keys_of k (after (after_all fresh_station cs) c)) i g → standing k (after_all (after_all fresh_station cs) (c ∷ ds)) i g ≡ gone
  unfolding after_all
  removed_gone k c i g r =
      let was = living_given (keys_of k (after_all fresh_station cs)) i g (run_numbered k cs) r.0 in
      gone_stays k i g (after (after_all fresh_station cs) c) (given_gone _ i g (record { least = was.least; most = r.1.given }) r.1.dead) ds

  module _ (l : Lent) (e : Entry) where
    answered_seven : (c : Call) (n : Named) → l.station ≡ after_all (after_all fresh_station cs) (c ∷ ds) → named_by e ≡ n → IsGone (after_all (after_all fresh_station cs) (c ∷ ds)) n → number_given l e ≡ «GONE»
    answered_seven c n at is h = (seven l (subst Tables (sym at) (run_tables cs (c ∷ ds))) e).1 (rw (at, is) h)

    pub yesterday_gone :
        (id : ClockId) → call_number (after_all fresh_station cs) (clock (clocks.Remove id)) ≡ 0 → l.station ≡ after_all (after_all fresh_station cs) (clock (clocks.Remove id) ∷ ds)
        → named_by e ≡ any_of of_clock id.slot id.generation → number_given l e ≡ «GONE»
    yesterday_gone id z at n = answered_seven _ _ at n (removed_gone of_clock _ id.slot id.generation (clock_removed (after_all fresh_station cs) id z))

    pub modulator_gone :
        (id : ModulatorId) → call_number (after_all fresh_station cs) (modulator (modulators.Remove id)) ≡ 0 → l.station ≡ after_all (after_all fresh_station cs) (modulator (modulators.Remove id) ∷ ds)
        → (named_by e ≡ any_of of_modulator id.slot id.generation) ⊎ ((f : Modulator → Bool) × (named_by e ≡ kind_of f id.slot id.generation)) → number_given l e ≡ «GONE»
    modulator_gone id z at (inl n) = answered_seven _ _ at n (removed_gone of_modulator _ id.slot id.generation (modulator_removed (after_all fresh_station cs) id z))
    modulator_gone id z at (inr (f, n)) = answered_seven _ _ at n (removed_gone of_modulator _ id.slot id.generation (modulator_removed (after_all fresh_station cs) id z))

-- nothing lives again in a slot whose generations are used up, under any generation: RULES, retired-slot
record Retired (ks : List Key) (i : ℕ) : Type 0 where
  empty : used_at ks i ≡ false
  last : 4294967295 ≤ generation_at ks i

module _ (i : ℕ) where
  elsewhere : (ks : List Key) (j : ℕ) (x : Key) → (i ≡ j → ⊥) → Retired ks i → Retired (set ks j x) i
  elsewhere ks j x n r = record { empty = read_set_other false (λ (k : Key). k.used) ks j i x n ∙ r.empty; last = rw (read_set_other 0 (λ (k : Key). k.generation) ks j i x n) r.last }

  retired_later : {ks ls : List Key} → Later ks ls → Retired ks i → Retired ls i
  retired_later same r = r
  retired_later {ks} (added j g e m) r = retired_later m (go (ℕ_discrete i j))
    where
      go : Dec (i ≡ j) → Retired (set ks j (taken_at g)) i
      go (yes p) = let b = (gives ks j g e).below in absurd (omega (arith, rw p at r.last))
      go (no n) = elsewhere ks j (taken_at g) n r
  retired_later {ks} (removed j g l m) r = retired_later m (go (ℕ_discrete i j))
    where
      go : Dec (i ≡ j) → Retired (set ks j (left_at g)) i
      go (yes p) = absurd (false≢true (sym (rw p at r.empty) ∙ lives_used ks j g l))
      go (no n) = elsewhere ks j (left_at g) n r

  -- in any station, of any slot that is not occupied and has had its last generation
  pub retired_slot :
      (k : Kind) (st : Station) → used_at (keys_of k st) i ≡ false → 4294967295 ≤ generation_at (keys_of k st) i → (cs : List Call) (g : ℕ)
      → lives k (after_all st cs) i g ≡ false
  retired_slot k st e l cs g = rw (lives_parts (keys_of k (after_all st cs)) i g, (retired_later (run_later k st cs) (record { empty = e; last = l })).empty)

  -- once the last id of a slot has died: whatever calls led to it, and whatever calls follow. It does not say that a
  -- slot ever comes so far
  pub used_up :
      (k : Kind) (cs : List Call) → lives k (after_all fresh_station cs) i 4294967295 ≡ true → (ds : List Call) → lives k (after_all (after_all fresh_station cs) ds) i 4294967295 ≡ false
      → (es : List Call) (g : ℕ) → lives k (after_all (after_all (after_all fresh_station cs) ds) es) i g ≡ false
  used_up k cs l ds d es g = retired_slot k (after_all (after_all fresh_station cs) ds) (go (used_at ls i) refl (sym (lives_parts ls i 4294967295) ∙ d)) last es g
    where
      ks : List Key
      ks = keys_of k (after_all fresh_station cs)

      ls : List Key
      ls = keys_of k (after_all (after_all fresh_station cs) ds)

      parts : (u b : Bool) → (u && b) ≡ true → b ≡ true
      parts true b e = e
      parts false b e = absurd (false≢true e)

      last : 4294967295 ≤ generation_at ls i
      last =
          let e : generation_at ks i ≡ 4294967295 = eqb-true (generation_at ks i) 4294967295 (parts (used_at ks i) (eqb (generation_at ks i) 4294967295) (sym (lives_parts ks i 4294967295) ∙ l)) in
          omega (arith, later_rises (run_later k (after_all fresh_station cs) ds) i)

      most : generation_at ls i ≤ 4294967295
      most = (later_numbered (run_later k (after_all fresh_station cs) ds) (run_numbered k cs)).last i

      go : (u : Bool) → used_at ls i ≡ u → (u && eqb (generation_at ls i) 4294967295) ≡ false → u ≡ false
      go false e q = refl
      go true e q = absurd (eqb-false (generation_at ls i) 4294967295 q (omega (arith, last, most)))
