-- No NaN stops a clock: in every station that calls reach each clock's ticks per second are finite and not negative and
-- its fraction lies in 0..1, and the set that would make one, from speed 0 to seconds per tick, is refused by BAD_SPEED
-- and leaves every clock as it was. 01, "Speeds"; RULES, no-nan. Assumes nothing.
use Prim.Native.Nat.{ℕ, zero, suc, ◌*◌, ◌<◌}
use native.Mathlib.Nat.{zero-mul, mul-pos, zero-lt-suc, lt_irrefl}
use mathlib.Core.Path.{◌≡◌, refl, ap, ◌∙◌, subst}
use mathlib.Core.Bool.{Bool, true, false, ◌&&◌, cond, false≢true}
use mathlib.Core.List.{List, [], ◌∷◌}
use lib.IntN.{ℤ, pos}
use lib.Dec.{eqb, lit<}
use lib.Ieee.{Float, nan, inf, fin, binary64, up, down, div, eq}
use lib.Ieee.Fits.{up_pos}
use borrow.Author.Tests.{eqb-true, eq-eqb}
use Rattle.doubles.specs.Doubles.{finite_of, zero_f}
use Rattle.ids.specs.Lists.{read_at}
use Rattle.judge.specs.Answer.{accepted}
use Rattle.judge.specs.Judge.{no_faults, both_faults, first_fault}
use Rattle.judge.specs.Numbers.{BAD_SPEED}
use Rattle.values.specs.Speeds.{speed_tweens, bad_reading, faults_of_speed, read_faults}
use Rattle.judge.specs.declared.Faults.{Faults}
use Rattle.values.specs.declared.clock_speed.ClockSpeed.{ClockSpeed}
use Rattle.values.specs.declared.clock_speed.ClockSpeed.TheVariants.{SecondsPerTick, TicksPerSecond, TicksPerMinute}
use Rattle.times.specs.declared.time.ClockId.{ClockId}
use Rattle.times.specs.Easings.{tween_faults}
use Rattle.values.specs.Values.{value_faults}
use Rattle.times.specs.declared.tween.Tween.{Tween}
use Rattle.values.specs.declared.value.Value.{Value}
use Rattle.parameter.specs.Parameters.{Set, set_of, target_unit, set_faults, try_set_of}
use Rattle.parameter.specs.declared.Parameter.{Parameter}
use Rattle.ids.specs.Tables.{refused_call, where_is, read_found}
use Rattle.clock_table.specs.ClockTables.{clock_table, by_set, set_speed_of, ClockDone}
use Rattle.clock.specs.declared.Clock.{Clock}
use Rattle.clock_table.specs.declared.Clocks.{Clocks}
use Rattle.station.specs.Stations.{fresh_station}
use Rattle.laws.specs.Calls.{Call, after_all}
use Rattle.laws.specs.SoundStation.{All, CallDoubles, Ticks}
use Rattle.laws.proofs.lemmas.Entries.{Holds, names_of, names_on}
use Rattle.laws.proofs.Reached.{no_nan}
use Rattle.demands.specs.Events.{clock_in}

-- ---- every station that calls reach

all_holds : {A : Type 0} (P : A → Type 0) (l : List A) (i : ℕ) (x : A) → Holds l i x → All P l → P x
unfolding read_at
all_holds P [] i x h a = absurd (cc)
all_holds P (y ∷ l) zero x h a = let e : y ≡ x = cc in rw e at a.0
all_holds P (y ∷ l) (suc i) x h a = all_holds P l i x h a.1

-- `Ticks` says it of one clock: RULES, no-nan. Of the calls is asked only that their floats are doubles: any number and
-- order of them, accepted or refused. It does not say how fast a clock ticks, nor that one moves: `summed` of
-- `ServedOnTime` and `a_clock_goes_on_moving` of `Useful` do.
module _ (cs : List Call) (F : All CallDoubles cs) where
  -- every clock of the table, those of unused slots too
  pub every_clock_ticks : All Ticks (after_all fresh_station cs).clocks.clocks
  every_clock_ticks = (no_nan cs F).0

  -- and so the clock of each id that lives
  pub living_clock_ticks : (id : ClockId) (c : Clock) → clock_in (after_all fresh_station cs) id ≡ accepted c → Ticks c
  living_clock_ticks id c e =
      let t = (after_all fresh_station cs).clocks in
      all_holds Ticks t.clocks id.slot c (names_of t id c e).holds every_clock_ticks

-- ---- the set that would make a NaN

-- 0 of either sign; seconds per tick are never 0
abbrev pub still : ClockSpeed → Bool
still (SecondsPerTick x) = false
still (TicksPerSecond x) = eq x zero_f
still (TicksPerMinute x) = eq x zero_f

no_size : (m : ℕ) (e : ℤ) (d : ℕ) → m * up e * 1 ≡ 0 * d → m ≡ 0
no_size zero e d h = refl
no_size (suc m) e d h = absurd (lt_irrefl 0 (subst (λ (x : ℕ). 0 < x) (h ∙ zero-mul d) (mul-pos (mul-pos (zero-lt-suc m) (up_pos e)) (lit< tt))))

-- a number above 0, by 0
over_zero : (m : ℕ) (i : ℤ) → eqb m 0 ≡ false → (x : Float) → eq x zero_f ≡ true → finite_of (div binary64 (fin false m i) x) ≡ false
unfolding div eq
over_zero m i h nan e = absurd (false≢true e)
over_zero m i h (inf s) e = absurd (false≢true e)
over_zero m i h (fin s n d) e = rw (eq-eqb n 0 (no_size n d (down d) (eqb-true (n * up d * 1) (0 * down d) (first _ _ e))), h)
  where
    first : (a b : Bool) → (a && b) ≡ true → a ≡ true
    first true b e = refl
    first false b e = e

-- speed 0 has no reading in seconds per tick: 1/0 or 60/0, RULES, bad-reading
unreadable : (s : ClockSpeed) (y : Float) → still s ≡ true → bad_reading s (SecondsPerTick y) ≡ true
unreadable (SecondsPerTick x) y e = absurd (false≢true e)
unreadable (TicksPerSecond x) y e = rw (over_zero 1 (pos 0) refl x e)
unreadable (TicksPerMinute x) y e = rw (over_zero 15 (pos 2) refl x e)

by_speed : (a b r : Faults) → a ≡ no_faults → b ≡ no_faults → r ≡ faults_of_speed true → first_fault (both_faults (both_faults a b) r) ≡ BAD_SPEED
unfolding first_fault
by_speed a b r p q e = rw (p, q, e)

-- Every value whose target is in seconds per tick, a fixed speed or a mapping, and every tween, where nothing else of
-- the call is refused. What a tween that is under way makes of its speed is told above, not here. A program that
-- refuses every set to seconds per tick would meet these two; `accepted_exactly` of `Exactly` rules it out.
module _ (v : Value ClockSpeed) (y : Float) (u : target_unit v ≡ SecondsPerTick y) (a : value_faults speed_tweens v ≡ no_faults) (w : Tween) (b : tween_faults w ≡ no_faults) where
  -- for every parameter at speed 0, which comes back as it was
  pub parameter_stays : (p : Parameter ClockSpeed) → still p.raw ≡ true → try_set_of speed_tweens p v w ≡ record { refused = BAD_SPEED; parameter = p }
  unfolding try_set_of
  parameter_stays p z = refuses (first_fault (set_faults speed_tweens p v w)) (by_speed (value_faults speed_tweens v) (tween_faults w) (read_faults p.raw (target_unit v)) a b (ap faults_of_speed bad))
    where
      bad : bad_reading p.raw (target_unit v) ≡ true
      bad = rw u (unreadable p.raw y z)

      refuses : (n : ℕ) → n ≡ BAD_SPEED → ◌≡◌ {A = Set ClockSpeed} (cond (eqb n 0) (record { refused = 0; parameter = set_of p v w }) (record { refused = n; parameter = p })) (record { refused = BAD_SPEED; parameter = p })
      refuses n e = rw e

  -- for every table, and every id that names a clock in it which is at speed 0: the table comes back, and so that
  -- clock, as it was
  pub clock_stays : (t : Clocks) (id : ClockId) (c : Clock) → read_found clock_table t (where_is clock_table t id) (λ x. x) ≡ accepted c → still c.speed.raw ≡ true → ((set_speed_of t id v w).refused ≡ BAD_SPEED) × ((set_speed_of t id v w).table ≡ t)
  unfolding set_speed_of
  clock_stays t id c is z =
      let r : set_speed_of t id v w ≡ refused_call clock_table t BAD_SPEED =
      names_on t id c (names_of t id c is) (λ i x. by_set t i x (try_set_of speed_tweens x.speed v w)) ∙ ap (by_set t id.slot c) (parameter_stays c.speed z) in
      (ap (λ (d : ClockDone). d.refused) r, ap (λ (d : ClockDone). d.table) r)
