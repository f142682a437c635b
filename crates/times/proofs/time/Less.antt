-- A double that is taken off a time: what the code asks is what the definition asks (`less_is`), and the time has the
-- ticks that the code takes (`whole_off_lem`, `tick_off`). RULES, subtract-double and before-zero. Assumes nothing.
use Prim.Native.Nat.{ℕ, ◌+◌, ◌-◌, ◌*◌, ◌/◌, ◌^◌, ◌≤◌, ◌<◌, min}
use native.Mathlib.Decide.{dec_le}
use native.Mathlib.Nat.{le_trans, le_of_eq, lt_of_not-le, lt_of_le_of_lt, mul-le-mul_right, div-lt_iff_lt-mul}
use native.Mathlib.Omega.{arith}
use mathlib.Core.Path.{◌≡◌, refl, sym, ap, ◌∙◌, subst}
use mathlib.Core.Bool.{Bool, true, false, ◌||◌, true≢false}
use lib.Dec.{T, ltb}
use lib.Pow.{pow_pos}
use lib.Ieee.{Float, nan, inf, fin, binary64, up, down, round, sub, lt, fits, to_unsigned}
use lib.Ieee.Exact.{HasValue}
use lib.Ieee.Fits.{down_pos, sub-fits}
use lib.Ieee.Positive.{num, den}
use lib.Ieee.Scale.{finite, grid}
use borrow.Author.Tests.{ltb-true, ltb-false, lt-ltb, le-ltb}
use Rattle.doubles.specs.Doubles.{zero_f, sign_of, whole_of, fract_of, scaled}
use Rattle.doubles.proofs.Scaled.{Split, split, negative_is, not_negative, difference, difference_below, Near, near, rounded}
use Rattle.judge.specs.Judge.{first_fault, bad_float}
use Rattle.judge.proofs.Judged.{none_set}
use Rattle.judge.specs.declared.Faults.{Faults}
use Rattle.ticks.proofs.Parts.{bits_value}
use Rattle.times.specs.Times.{time_at, exact_of, shift_faults, too_little, borrowing, subtracted, order_of, is_less}
use Rattle.times.specs.declared.time.ClockTime.{ClockTime}
use Rattle.times.proofs.time.Places.{Fraction, fraction, is_less_lem, before, order_places}

-- ---- the difference of two fractions

pub minus_le : (a b : ℕ) → a - b ≤ a
minus_le a b = omega arith

pub minus_pos : (a b : ℕ) → b < a → 0 < a - b
minus_pos a b h = omega arith

-- x is z units rounded, with the sign s, and no more than p
pub record Rounded (x : Float) (s : Bool) (z p : ℕ) : Type 0 where
  pub value : HasValue x s (grid binary64 z (2 ^ 1074)) (2 ^ 1074)
  pub most : grid binary64 z (2 ^ 1074) ≤ p
  pub close : Near z (grid binary64 z (2 ^ 1074))

-- what z units round to, where hi is at least as many and below 1
pub units : (x : Float) (s : Bool) (z : ℕ) (hi : Float) → T (fits binary64 hi) → Fraction hi → z ≤ scaled hi → x ≡ round binary64 s z (2 ^ 1074) → Rounded x s z (scaled hi)
units x s z hi D H l e =
    let r = rounded s z hi (scaled hi) D H.value l in
    record {
      value = subst (λ (y : Float). HasValue y s (grid binary64 z (2 ^ 1074)) (2 ^ 1074)) (sym e) r.0;
      most = r.1;
      close = near z (lt_of_le_of_lt l H.below);
    }

module _ (f r : Float) (D : T (fits binary64 f)) (E : T (fits binary64 r)) (F : Fraction f) (R : Fraction r) where
  abbrev a : ℕ
  a = scaled f

  abbrev b : ℕ
  b = scaled r

  pub stays : b ≤ a → Rounded (sub binary64 f r) false (a - b) a
  stays l = units (sub binary64 f r) false (a - b) f D F (minus_le a b) (difference f r a b (2 ^ 1074) (pow_pos 1074) F.value R.value l)

  pub lacks : a < b → Rounded (sub binary64 f r) true (b - a) b
  lacks l = units (sub binary64 f r) true (b - a) r E R (minus_le b a) (difference_below f r a b (2 ^ 1074) (pow_pos 1074) F.value R.value l)

  -- it is negative exactly where the first is the smaller one: rounding changes no sign
  pub negative_where : lt (sub binary64 f r) zero_f ≡ ltb a b
  negative_where = go (dec_le b a)
    where
      go : Dec (b ≤ a) → lt (sub binary64 f r) zero_f ≡ ltb a b
      go (yes l) = not_negative (sub binary64 f r) (grid binary64 (a - b) (2 ^ 1074)) (2 ^ 1074) (stays l).value ∙ sym (le-ltb a b l)
      go (no m) =
          let l : a < b = lt_of_not-le m in
          let d = lacks l in
          negative_is (sub binary64 f r) (grid binary64 (b - a) (2 ^ 1074)) (2 ^ 1074) d.value (d.close.some (minus_pos b a l)) ∙ sym (lt-ltb a b l)

-- ---- a time and an amount with nothing wrong

-- the amount's whole ticks
abbrev pub whole_off : Float → ℕ
whole_off x = to_unsigned 64 (whole_of x)

pub record Well (t : ClockTime) (x : Float) : Type 0 where
  pub double : T (fits binary64 t.fraction)
  pub fraction : Fraction t.fraction
  pub split : Split x (whole_off x)

-- no accepted amount has more whole ticks than 64 bits hold
whole_off_is : (x : Float) → T (fits binary64 x) → sign_of x ≡ false → bad_float x ≡ false → T (finite x) × (whole_off x ≡ num x / den x)
unfolding lt
whole_off_is nan F s b = absurd (true≢false b)
whole_off_is (inf t) F s b = absurd (true≢false b)
whole_off_is (fin true m e) F s b = absurd (true≢false s)
whole_off_is (fin false m e) F s b =
    let M = m * up e in
    let D = down e in
    let l : M < (2 ^ 40 + 1) * D = under M D (down_pos e) (ltb-false (1 * 2 ^ 40 * D) (M * 1) b) in
    (tt, bits_value 64 (fin false m e) M D (down_pos e) F (refl, refl) ∙ few (M / D) ((div-lt_iff_lt-mul (down_pos e)).1 l))
  where
    under : (M D : ℕ) → 0 < D → M * 1 ≤ 1 * 2 ^ 40 * D → M < (2 ^ 40 + 1) * D
    under M D P h = omega arith

    few : (q : ℕ) → q < 2 ^ 40 + 1 → min q (2 ^ 64 - 1) ≡ q
    few q h = omega arith

pub well : (t : ClockTime) (x : Float) → T (fits binary64 t.fraction) → T (fits binary64 x) → sign_of x ≡ false → first_fault (shift_faults t x) ≡ 0 → Well t x
well t x F G s h =
    let n = none_set (shift_faults t x) h in
    let o = whole_off_is x G s (first (bad_float x) (ap (λ (i : Faults). i.float) n)) in
    record {
      double = F;
      fraction = fraction t.fraction F (ap (λ (i : Faults). i.time) n);
      split = subst (Split x) (sym o.1) (split x G o.0 s);
    }
  where
    first : (b : Bool) → (b || false) ≡ false → b ≡ false
    first true e = absurd (true≢false e)
    first false e = refl

-- ---- the tests of the code

-- of n and a against w and b, in units of which u are a tick
module _ (n a w b u : ℕ) (A : a < u) (h : w * u + b ≤ n * u + a) where
  holds : w ≤ n
  holds = go (dec_le w n)
    where
      go : Dec (w ≤ n) → w ≤ n
      go (yes l) = l
      go (no m) = let k : n * u + a < w * u + b = before n w u a b A (lt_of_not-le m) in absurd (omega arith)

  holds_more : a < b → w < n
  holds_more l = go (dec_le n w)
    where
      go : Dec (n ≤ w) → w < n
      go (yes m) = let k : n * u ≤ w * u = mul-le-mul_right u m in absurd (omega arith)
      go (no m) = lt_of_not-le m

module _ (t : ClockTime) (x : Float) (g : Well t x) where
  -- the amount as a time of the same clock
  abbrev amount : ClockTime
  amount = time_at t.clock (whole_off x) (fract_of x)

  pub rest : Fraction (fract_of x)
  rest = record { value = g.split.rest; below = g.split.below }

  before_is : is_less (order_of t amount) ≡ too_little t x
  before_is =
      ap is_less (order_places t amount refl g.fraction rest)
      ∙ is_less_lem (exact_of t) (exact_of amount)
      ∙ ap (ltb (exact_of t)) (sym g.split.size)

  module _ (h : too_little t x ≡ false) where
    reach : whole_off x * 2 ^ 1074 + scaled (fract_of x) ≤ t.ticks * 2 ^ 1074 + scaled t.fraction
    reach = le_trans (le_of_eq (sym g.split.size)) (ltb-false (exact_of t) (scaled x) h)

    pub enough : whole_off x ≤ t.ticks
    enough = holds t.ticks (scaled t.fraction) (whole_off x) (scaled (fract_of x)) (2 ^ 1074) g.fraction.below reach

    pub lends : scaled t.fraction < scaled (fract_of x) → whole_off x < t.ticks
    lends = holds_more t.ticks (scaled t.fraction) (whole_off x) (scaled (fract_of x)) (2 ^ 1074) g.fraction.below reach

    -- where the difference is negative, a tick can be borrowed
    lender : lt (sub binary64 t.fraction (fract_of x)) zero_f ≡ true → 0 < t.ticks - whole_off x
    lender e =
        let n = negative_where t.fraction (fract_of x) g.double (sub-fits binary64 x (whole_of x)) g.fraction rest in
        minus_pos t.ticks (whole_off x) (lends (ltb-true (scaled t.fraction) (scaled (fract_of x)) (sym n ∙ e)))

-- the same where the code computed w and r
module _ (t : ClockTime) (x : Float) (g : Well t x) (w : ℕ) (r : Float) (W : w ≡ whole_off x) (R : r ≡ fract_of x) where
  pub less_is : is_less (order_of t (time_at t.clock w r)) ≡ too_little t x
  less_is = rw (W, R) (before_is t x g)

  pub whole_off_lem : too_little t x ≡ false → w ≤ t.ticks
  whole_off_lem h = rw W (enough t x g h)

  pub tick_off : too_little t x ≡ false → lt (sub binary64 t.fraction r) zero_f ≡ true → 0 < t.ticks - w
  tick_off h e = rw W (lender t x g h (rw R at e))

  pub borrowed_is : borrowing t.clock (t.ticks - w) (sub binary64 t.fraction r) ≡ subtracted t x
  borrowed_is = rw (W, R)
