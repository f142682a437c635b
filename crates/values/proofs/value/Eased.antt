-- An eased amount of 0..1 stays in 0..1, whatever the easing and the power: rounding is monotone, and 0 and 1 are
-- doubles. So the amount of a mapping that is not refused lies in 0..1, and the speed that it gives is one that a tween
-- may go towards (`mapped_reachable`), so one of a running clock. RULES, mapping. Assumes nothing.
use Prim.Native.Nat.{ℕ}
use mathlib.Core.Path.{◌≡◌, refl, ap}
use mathlib.Core.Bool.{Bool, true, false, not, ◌||◌, true≢false, false≢true}
use lib.IntN.{pos}
use lib.Dec.{T, eqb}
use lib.Ieee.{Float, nan, inf, fin, binary64, is_nan, sub, mul, div, lt, le, eq, fits}
use lib.Ieee.Scale.{finite}
use borrow.Author.Tests.{not-false}
use Rattle.doubles.specs.Doubles.{one_f, two_f, abs_of}
use Rattle.doubles.specs.Intervals.{InUnit}
use Rattle.doubles.proofs.Unit.{le_of_not_lt, clamp_unit, complement_unit, powers_unit, twice_low, twice_high, low_half, high_half}
use Rattle.doubles.proofs.Quotients.{quotient_is}
use Rattle.judge.specs.Judge.{no_faults, bad_float}
use Rattle.values.specs.Speeds.{read_in_of, bad_speed, unit_of, speed_tweens}
use Rattle.judge.specs.declared.Faults.{Faults}
use Rattle.values.specs.declared.clock_speed.ClockSpeed.{ClockSpeed}
use Rattle.values.specs.declared.clock_speed.ClockSpeed.TheVariants.{SecondsPerTick, TicksPerSecond, TicksPerMinute}
use Rattle.values.specs.RunningSpeeds.{Reachable, number_of}
use Rattle.values.proofs.clock_speed.Rates.{like, neither, accepted_above, interpolated_reachable}
use Rattle.times.specs.Easings.{power_of, in_out_at, in_out_of, apply_of}
use Rattle.values.specs.Values.{amount_of, map_of, mapping_faults}
use Rattle.values.specs.declared.value.Mapping.{Mapping}
use Rattle.times.specs.declared.tween.Easing.{Easing}
use Rattle.times.specs.declared.tween.Easing.TheVariants.{Linear, InPowi, OutPowi, InOutPowi}

power_unit : (x : Float) (n : ℕ) → InUnit x → InUnit (power_of x n)
unfolding power_of
power_unit x n h = powers_unit (power_of x) x refl refl (λ k. refl) h n

out_unit : (x : Float) (n : ℕ) → InUnit x → InUnit (sub binary64 one_f (power_of (sub binary64 one_f x) n))
out_unit x n h = complement_unit _ (power_unit _ n (complement_unit x h))

in_out_unit : (x : Float) (n : ℕ) → InUnit x → InUnit (in_out_at (mul binary64 two_f x) n)
in_out_unit x n h = go (lt (mul binary64 two_f x) one_f) refl
  where
    go : (b : Bool) → lt (mul binary64 two_f x) one_f ≡ b → InUnit (in_out_at (mul binary64 two_f x) n)
    go true e = rw e (low_half _ (power_unit _ n (twice_low x h e)))
    go false e = rw e (high_half _ (complement_unit _ (power_unit _ n (twice_high x h e))))

pub eased_unit : (e : Easing) (x : Float) → InUnit x → InUnit (apply_of e x)
unfolding apply_of in_out_of
eased_unit Linear x h = h
eased_unit (InPowi n) x h = power_unit x n h
eased_unit (OutPowi n) x h = out_unit x n h
eased_unit (InOutPowi n) x h = in_out_unit x n h

-- a mapping's amount lies in 0..1 unless its quotient is a NaN
pub amount_unit : (lo hi : Float) (e : Easing) (x : Float) → is_nan (div binary64 (sub binary64 x lo) (sub binary64 hi lo)) ≡ false → InUnit (amount_of lo hi e x)
unfolding amount_of
amount_unit lo hi e x h = eased_unit e _ (clamp_unit _ h)

-- ---- what is not refused

-- a number that is not refused is finite, and 2 ^ 40 at most in size
good : (x : Float) → bad_float x ≡ false → T (finite x) × T (le (abs_of x) (fin false 1 (pos 40)))
good nan h = absurd (true≢false h)
good (inf s) h = absurd (true≢false h)
good (fin s m e) h = (tt, le_of_not_lt (fin false 1 (pos 40)) (fin false m e) (unfold is_nan in refl) (unfold is_nan in refl) h)

-- a mapping's amount lies in 0..1 where the ends of its input range are not refused
pub accepted_amount_unit : (lo hi : Float) (e : Easing) (x : Float) → T (fits binary64 lo) → T (fits binary64 hi) → T (finite x) → bad_float lo ≡ false → bad_float hi ≡ false → eq lo hi ≡ false → InUnit (amount_of lo hi e x)
accepted_amount_unit lo hi e x F G X l h d =
    let L = good lo l in
    let H = good hi h in
    amount_unit lo hi e x (quotient_is x lo hi F G X L.0 H.0 L.1 H.1 d)

-- ---- speeds

-- a speed in the unit of another that has the same is itself
same_unit : (a b : ClockSpeed) → eqb (unit_of a) (unit_of b) ≡ true → like b (read_in_of a b) ≡ a
same_unit (SecondsPerTick x) (SecondsPerTick y) e = refl
same_unit (SecondsPerTick x) (TicksPerSecond y) e = absurd (false≢true e)
same_unit (SecondsPerTick x) (TicksPerMinute y) e = absurd (false≢true e)
same_unit (TicksPerSecond x) (SecondsPerTick y) e = absurd (false≢true e)
same_unit (TicksPerSecond x) (TicksPerSecond y) e = refl
same_unit (TicksPerSecond x) (TicksPerMinute y) e = absurd (false≢true e)
same_unit (TicksPerMinute x) (SecondsPerTick y) e = absurd (false≢true e)
same_unit (TicksPerMinute x) (TicksPerSecond y) e = absurd (false≢true e)
same_unit (TicksPerMinute x) (TicksPerMinute y) e = refl

-- a mapping to speeds that is not refused gives a speed that a tween may go towards, so one of a running clock
module _ (m : Mapping ClockSpeed) (x : Float) (F : T (fits binary64 m.in_lo)) (G : T (fits binary64 m.in_hi)) (P : T (fits binary64 (number_of m.out_lo))) (Q : T (fits binary64 (number_of m.out_hi))) (X : T (finite x)) (e : mapping_faults speed_tweens m ≡ no_faults) where
  pub mapped_reachable : Reachable (map_of speed_tweens m x)
  unfolding map_of
  mapped_reachable =
      let lo = m.in_lo in
      let hi = m.in_hi in
      let a = m.out_lo in
      let b = m.out_hi in
      let f = neither (bad_float lo) (bad_float hi) (neither (bad_float lo || bad_float hi) false (ap (λ (r : Faults). r.float) e)).0 in
      let d : eq lo hi ≡ false = (neither (eq lo hi) false (neither (eq lo hi || false) false (neither (eq lo hi || false || false) false (ap (λ (r : Faults). r.map) e)).0).0).0 in
      let s = neither (bad_speed a || bad_speed b) (not (eqb (unit_of a) (unit_of b))) (ap (λ (r : Faults). r.speed) e) in
      let o = neither (bad_speed a) (bad_speed b) s.0 in
      interpolated_reachable a b (amount_of lo hi m.easing x) (same_unit a b (not-false (eqb (unit_of a) (unit_of b)) s.1)) (accepted_above a P o.0) (accepted_above b Q o.1)
      (accepted_amount_unit lo hi m.easing x F G X f.0 f.1 d)
