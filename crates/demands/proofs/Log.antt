-- What 7 and 15 in a station's log say of the id that the call names: 7, that a call of the station gave it out and it
-- lives no more; 15, that none gave it out, or that it lives and is a modulator of the other kind. Each of the two
-- exactly then. 02, dead or never ours. RULES, issued. Assumes nothing.
use Prim.Native.Nat.{ℕ, ◌≤◌}
use native.Mathlib.Omega.{arith}
use mathlib.Core.Path.{◌≡◌, refl, sym, subst, ◌∙◌}
use mathlib.Core.Bool.{Bool, true, false, not, ◌&&◌, ◌||◌, cond, false≢true}
use mathlib.Core.Logic.{◌⊎◌, inl, inr, ◌↔◌}
use mathlib.Core.List.{List, []}
use lib.ListN.{length}
use Rattle.ids.specs.Keys.{lives_in, living, gone, never_issued, standing_of}
use Rattle.ids.specs.Lists.{read_at}
use Rattle.ids.specs.declared.Key.{Key}
use Rattle.ids.proofs.Standings as standings
use Rattle.judge.specs.Judge.{Conditions, no_faults}
use Rattle.judge.specs.Numbers.{«GONE», NEVER_ISSUED}
use Rattle.judge.specs.declared.Faults.{Faults}
use Rattle.values.specs.Speeds.{speed_tweens}
use Rattle.values.specs.Tweenables.{Tweens, float_tweens}
use Rattle.values.specs.declared.value.ModulatorId.{ModulatorId}
use Rattle.parameter.specs.declared.Parameter.{Parameter}
use Rattle.modulator_table.specs.declared.Modulator.{Modulator}
use Rattle.commands.specs.declared.clock_command.ClockCommand.{ClockCommand}
use Rattle.commands.specs.declared.clock_command.ClockCommand.TheVariants as clocks
use Rattle.commands.specs.declared.modulator_command.ModulatorCommand.{ModulatorCommand}
use Rattle.commands.specs.declared.modulator_command.ModulatorCommand.TheVariants as modulators
use Rattle.station.specs.Stations.{fresh_station}
use Rattle.station.specs.declared.Station.{Station}
use Rattle.laws.specs.Calls.{Call, clock, modulator, frame, after_all, Kind, of_clock, of_modulator, keys_of, lives, standing}
use Rattle.laws.proofs.Issued.{issued_gone, gone_issued, never_unissued, unissued_never}
use Rattle.laws.proofs.lemmas.Sizes.{Sixteen, run_sixteen, reached_sixteen}
use Rattle.demands.specs.Conditions.{ungiven, gone_in, never_in, is_tweener, is_lfo, other_kind, by_id, by_kind, of_clocks, of_modulators, of_parameter, conditions_of}
use Rattle.demands.specs.Entries.{Lent, Tables, add_ticks, sub_ticks, add_float, sub_float, OnKind, set, update, advance, read, make, Entry, on_station, on_float, on_speed, report, when, start_in, shift, number_given}
use Rattle.demands.specs.Log.{Named, no_id, any_of, kind_of, clock_named, modulator_named, named_by, OtherKind, IsGone, IsNever, Over, OursOver, NotOurs}
use Rattle.demands.specs.Order.{among, before}
use Rattle.demands.proofs.Exactly.{exactly}
use Rattle.demands.proofs.lemmas.Lookups.{ungiven_is}

-- ---- the conditions of an id are what it is to its table

-- of the three, two differ
living_gone : living ≡ gone → ⊥
living_gone e = cc

living_never : living ≡ never_issued → ⊥
living_never e = cc

gone_never : gone ≡ never_issued → ⊥
gone_never e = cc

module _ (ks : List Key) (i g : ℕ) (s : length ks ≤ 16) where
  gone_is : (gone_in ks i g ≡ true) ↔ (standing_of ks i g ≡ gone)
  unfolding standing_of
  gone_is = rw (← ungiven_is ks i g s) (go (lives_in ks i g) (ungiven ks i g))
    where
      go : (l b : Bool) → ((not l && not b) ≡ true) ↔ (cond l living (cond (not b) gone never_issued) ≡ gone)
      go true b = (λ h. absurd (false≢true h), λ h. absurd (living_gone h))
      go false true = (λ h. absurd (false≢true h), λ h. absurd (gone_never (sym h)))
      go false false = (λ h. refl, λ h. refl)

  never_is : (never_in ks i g ≡ true) ↔ (standing_of ks i g ≡ never_issued)
  unfolding standing_of
  never_is = rw (← ungiven_is ks i g s) (go (lives_in ks i g) (ungiven ks i g))
    where
      go : (l b : Bool) → ((not l && b) ≡ true) ↔ (cond l living (cond (not b) gone never_issued) ≡ never_issued)
      go true b = (λ h. absurd (false≢true h), λ h. absurd (living_never h))
      go false true = (λ h. refl, λ h. refl)
      go false false = (λ h. absurd (false≢true h), λ h. absurd (gone_never h))

-- the two conditions of a call, where it names n
record Tells (c : Conditions) (st : Station) (n : Named) : Type 0 where
  gone : (c.gone ≡ true) ↔ IsGone st n
  never : (c.never_issued ≡ true) ↔ IsNever st n

-- no condition of an id holds where none is named
none_named : {c : Conditions} {st : Station} → c.gone ≡ false → c.never_issued ≡ false → Tells c st no_id
none_named p q = record {
  gone = (λ h. false≢true (sym p ∙ h), λ x. absurd x);
  never = (λ h. false≢true (sym q ∙ h), λ x. absurd x);
}

module _ (st : Station) (t : Tables st) where
  most : (k : Kind) → length (keys_of k st) ≤ 16
  most of_clock = t.clocks.most
  most of_modulator = t.modulators.most

  of_any : (k : Kind) (i g : ℕ) (f : Faults) → Tells (by_id (keys_of k st) i g f) st (any_of k i g)
  of_any k i g f = record { gone = gone_is (keys_of k st) i g (most k); never = never_is (keys_of k st) i g (most k) }

  module _ (id : ModulatorId) where
    abbrev ks : List Key
    ks = st.modulators.keys

    of_kind : (k : Modulator → Bool) (f : Faults) → Tells (by_kind k st id f) st (kind_of k id.slot id.generation)
    of_kind k f = record {
      gone = gone_is ks id.slot id.generation t.modulators.most;
      never = go (never_in ks id.slot id.generation) (never_is ks id.slot id.generation t.modulators.most);
    }
      where
        Never : Type 0
        Never = standing of_modulator st id.slot id.generation ≡ never_issued

        Other : Type 0
        Other = OtherKind k st id.slot id.generation

        kind : Bool
        kind = read_at false (λ s. k s.modulator) st.modulators.slots id.slot

        other : (l b : Bool) → lives of_modulator st id.slot id.generation ≡ l → kind ≡ b → (l && not b) ≡ true → Other
        other true false p q e = record { alive = p; other = q }
        other true true p q e = absurd (false≢true e)
        other false b p q e = absurd (false≢true e)

        back : (Never → false ≡ true) → Never ⊎ Other → other_kind k st id ≡ true
        back r (inl e) = absurd (false≢true (r e))
        back r (inr o) = rw (o.alive, o.other)

        go : (n : Bool) → (n ≡ true) ↔ Never → ((n || other_kind k st id) ≡ true) ↔ (Never ⊎ Other)
        go true r = (λ h. inl (r.0 refl), λ h. refl)
        go false r = (λ h. inr (other (lives of_modulator st id.slot id.generation) kind refl refl h), back r.1)

  clock_tells : (c : ClockCommand) → Tells (of_clocks st c) st (clock_named c)
  clock_tells (clocks.Add v) = none_named refl refl
  clock_tells (clocks.Remove id) = of_any of_clock id.slot id.generation _
  clock_tells (clocks.Start id) = of_any of_clock id.slot id.generation _
  clock_tells (clocks.Stop id) = of_any of_clock id.slot id.generation _
  clock_tells (clocks.Reset id) = of_any of_clock id.slot id.generation _
  clock_tells (clocks.SetSpeed id v w) = of_any of_clock id.slot id.generation _
  clock_tells (clocks.Time id) = of_any of_clock id.slot id.generation _
  clock_tells (clocks.Ticking id) = of_any of_clock id.slot id.generation _
  clock_tells (clocks.Speed id) = of_any of_clock id.slot id.generation _

  modulator_tells : (c : ModulatorCommand) → Tells (of_modulators st c) st (modulator_named c)
  modulator_tells (modulators.AddTweener x) = none_named refl refl
  modulator_tells (modulators.AddLfo b) = none_named refl refl
  modulator_tells (modulators.Remove id) = of_any of_modulator id.slot id.generation _
  modulator_tells (modulators.SetTweener id x w) = of_kind id is_tweener _
  modulator_tells (modulators.SetParameter id p v w) = of_kind id is_lfo _
  modulator_tells (modulators.SetWaveform id w) = of_kind id is_lfo _
  modulator_tells (modulators.SetPhase id x) = of_kind id is_lfo _
  modulator_tells (modulators.Value id) = of_any of_modulator id.slot id.generation _

kind_tells : {T : Type 0} (k : Tweens T) (p : Parameter T) (c : OnKind T) {st : Station} → Tells (of_parameter k p c) st no_id
kind_tells k p (set v w) = none_named refl refl
kind_tells k p (update dt) = none_named refl refl
kind_tells k p (advance dt s) = none_named refl refl
kind_tells k p (read v) = none_named refl refl
kind_tells k p (make v d) = none_named refl refl

tells : (l : Lent) → Tables l.station → (e : Entry) → Tells (conditions_of l e) l.station (named_by e)
tells l t (on_station (clock c)) = clock_tells l.station t c
tells l t (on_station (modulator c)) = modulator_tells l.station t c
tells l t (on_station (frame dt)) = none_named refl refl
tells l t (on_float c) = kind_tells float_tweens l.float c
tells l t (on_speed c) = kind_tells speed_tweens l.speed c
tells l t (report id) = let c = of_any l.station t of_clock id.slot id.generation no_faults in record { gone = c.gone; never = c.never }
tells l t (when u) = none_named refl refl
tells l t (start_in s dt) = none_named refl refl
tells l t (shift u (add_ticks n)) = none_named refl refl
tells l t (shift u (sub_ticks n)) = none_named refl refl
tells l t (shift u (add_float x)) = none_named refl refl
tells l t (shift u (sub_float x)) = none_named refl refl

-- ---- the two numbers, in any station

-- an id is not both: RULES, order
pub not_both : (st : Station) (n : Named) → IsNever st n → IsGone st n → ⊥
not_both st no_id x e = x
not_both st (any_of k i g) x e = gone_never (sym e ∙ x)
not_both st (kind_of f i g) (inl x) e = gone_never (sym e ∙ x)
not_both st (kind_of f i g) (inr o) e = living_gone (sym (standings.lives_living st.modulators.keys i g o.alive) ∙ e)

module _ (l : Lent) (t : Tables l.station) (e : Entry) where
  -- 7, if and only if the id that the call names is gone: RULES, gone
  pub seven : (number_given l e ≡ «GONE») ↔ IsGone l.station (named_by e)
  unfolding among before
  seven =
      let d = exactly l t e «GONE» refl in
      let c = (tells l t e).gone in
      (λ q. c.0 (d.0 q).own, λ h. d.1 (record { own = c.1 h; earlier = tt }))

  -- 15, if and only if it was never issued, or is a living modulator of the other kind: RULES, never-issued
  pub fifteen : (number_given l e ≡ NEVER_ISSUED) ↔ IsNever l.station (named_by e)
  unfolding among before
  fifteen =
      let d = exactly l t e NEVER_ISSUED refl in
      let c = tells l t e in
      (λ q. c.never.0 (d.0 q).own, λ h. d.1 (record { own = c.never.1 h; earlier = (no (conditions_of l e).gone (λ g. not_both l.station (named_by e) h (c.gone.0 g)), tt) }))
    where
      no : (b : Bool) → (b ≡ true → ⊥) → b ≡ false
      no true h = absurd (h refl)
      no false h = refl

-- ---- and by the calls that the station has had

sized : (st : Station) → Sixteen of_clock st → Sixteen of_modulator st → Tables st
sized st c m = record {
  clocks = record { most = omega (arith, c.keys); filled = omega (arith, c.keys, c.entries) };
  modulators = record { most = omega (arith, m.keys); filled = omega (arith, m.keys, m.entries) };
}

-- every station that calls reach has its tables' sizes
pub run_tables : (cs ds : List Call) → Tables (after_all (after_all fresh_station cs) ds)
run_tables cs ds = sized (after_all (after_all fresh_station cs) ds) (sixteen of_clock) (sixteen of_modulator)
  where
    sixteen : (k : Kind) → Sixteen k (after_all (after_all fresh_station cs) ds)
    sixteen k = run_sixteen k (after_all fresh_station cs) (reached_sixteen k cs) ds

module _ (cs : List Call) where
  reached_tables : Tables (after_all fresh_station cs)
  unfolding after_all
  reached_tables = run_tables [] cs

  over : (k : Kind) (i g : ℕ) → (standing k (after_all fresh_station cs) i g ≡ gone) ↔ Over k cs i g
  over k i g = (
    λ e. record { issued = gone_issued k i g cs e; dead = (standings.gone_given _ i g e).1 },
    λ o. issued_gone k i g fresh_station cs o.issued o.dead,
  )

  gone_over : (n : Named) → IsGone (after_all fresh_station cs) n ↔ OursOver cs n
  gone_over no_id = (λ x. x, λ x. x)
  gone_over (any_of k i g) = over k i g
  gone_over (kind_of f i g) = over of_modulator i g

  never_ours : (n : Named) → IsNever (after_all fresh_station cs) n ↔ NotOurs cs n
  never_ours no_id = (λ x. x, λ x. x)
  never_ours (any_of k i g) = (never_unissued k i g cs, unissued_never k i g cs)
  never_ours (kind_of f i g) = (λ x. to x, λ x. from x)
    where
      to : IsNever (after_all fresh_station cs) (kind_of f i g) → NotOurs cs (kind_of f i g)
      to (inl e) = inl (never_unissued of_modulator i g cs e)
      to (inr o) = inr o

      from : NotOurs cs (kind_of f i g) → IsNever (after_all fresh_station cs) (kind_of f i g)
      from (inl x) = inl (unissued_never of_modulator i g cs x)
      from (inr o) = inr o

  -- A station's log, read back: cs are all calls that it has had, and e is made on it then. 7 is answered, if and only
  -- if the call names an id that a call of cs answered, and that lives no more: one of ours that is over. 15, if and
  -- only if no call of cs answered it: a foreign id; or, of a call for one kind of modulator, if it lives and is of the
  -- other kind. RULES, issued
  module _ (l : Lent) (at : l.station ≡ after_all fresh_station cs) (e : Entry) where
    pub seven_is_over : (number_given l e ≡ «GONE») ↔ OursOver cs (named_by e)
    seven_is_over =
        let r = seven l (subst Tables (sym at) reached_tables) e in
        let o = gone_over (named_by e) in
        (λ q. o.0 (subst (λ (st : Station). IsGone st (named_by e)) at (r.0 q)), λ h. r.1 (subst (λ (st : Station). IsGone st (named_by e)) (sym at) (o.1 h)))

    pub fifteen_is_foreign : (number_given l e ≡ NEVER_ISSUED) ↔ NotOurs cs (named_by e)
    fifteen_is_foreign =
        let r = fifteen l (subst Tables (sym at) reached_tables) e in
        let o = never_ours (named_by e) in
        (λ q. o.0 (subst (λ (st : Station). IsNever st (named_by e)) at (r.0 q)), λ h. r.1 (subst (λ (st : Station). IsNever st (named_by e)) (sym at) (o.1 h)))
