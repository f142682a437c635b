-- The laws of a double that is taken off a time, as `Subtractions` states them: what an accepted subtraction leaves
-- (`sub_earlier`, and `add_earlier` for a negative amount that is added), that taking 0 off changes nothing
-- (`zero_off`, `minus_zero_on`), and where 12 is given (`before_zero_lem`, `before_zero_added`). RULES, subtract-double
-- and before-zero. Assumes nothing.
use Prim.Native.Nat.{ℕ, zero, suc, ◌+◌, ◌-◌, ◌*◌, ◌^◌, ◌≤◌, ◌<◌, zero-le}
use native.Mathlib.Decide.{dec_le}
use native.Mathlib.Nat.{le_trans, le_of_eq, le_of_lt, lt_of_not-le, lt_of_le_of_lt, sub-zero, one-mul, add-mul}
use native.Mathlib.Omega.{arith}
use mathlib.Core.Path.{◌≡◌, refl, sym, ap, ◌∙◌, subst}
use mathlib.Core.Bool.{Bool, true, false, cond}
use lib.Dec.{T, eqb}
use lib.Pow.{pow_pos}
use lib.Ieee.{Float, binary64, round, neg, add, sub, lt, eq, fits, to_unsigned}
use lib.Ieee.Exact.{HasValue}
use lib.Ieee.Fits.{sub-fits, neg-fits}
use lib.Ieee.Scale.{grid}
use borrow.Author.Tests.{ltb-true, lt-ltb, le-ltb, eqb-true, eqb-false, ne_eqb}
use Rattle.doubles.specs.Doubles.{zero_f, one_f, sign_of, whole_of, fract_of, scaled}
use Rattle.doubles.proofs.Held.{held}
use Rattle.doubles.proofs.Scaled.{scaled_is, negative_is, not_negative, whole_one, difference, sum_second, Near, near, rounded}
use Rattle.judge.specs.Answer.{accepted, refused}
use Rattle.judge.specs.Judge.{Conditions, of_shift, number_of, first_fault, decided, bad_fraction}
use Rattle.judge.specs.declared.Faults.{Faults}
use Rattle.judge.proofs.Judged.{to_six, arguments_first, nothing_wrong, refused_by}
use Rattle.judge.specs.Numbers.{BEFORE_ZERO}
use Rattle.times.specs.Times.{time_at, exact_of, shift_faults, too_little, subtracted, earlier_of, try_sub_float_of, try_add_float_of}
use Rattle.times.specs.Subtractions.{Earlier, BeforeZero}
use Rattle.times.specs.declared.time.ClockTime.{ClockTime}
use Rattle.times.proofs.time.Less.{whole_off, Well, well, minus_le, minus_pos, Rounded, stays, lacks, rest, enough, lends}
use Rattle.times.proofs.time.Opposite.{no_sign, add_opposite, sub_plain}
use Rattle.times.proofs.time.Places.{fraction, not_refused}
use Rattle.times.proofs.time.Shifts.{clear, below}

-- ---- numbers

-- In units, of which u are a tick and v are 2^-53: b + R are taken off a time of p + b + F, where p are the ticks that
-- stay and b those that go. The place that is left is no later than the time, and within v of the difference.
module _ (F R u v p b : ℕ) where
  abbrev Off : ℕ → Type 0
  Off place = (place ≤ p + b + F) × (place + (b + R) ≤ p + b + F + v) × (p + b + F ≤ place + (b + R) + v)

  kept_off : (g : ℕ) → R ≤ F → g ≤ F → g * 2 ≤ (F - R) * 2 + v → (F - R) * 2 ≤ g * 2 + v → Off (p + g)
  kept_off g l m h k = (omega arith, omega arith, omega arith)

  -- d is what the fraction lacks, rounded, e what a tick leaves of it, rounded, and q are the ticks that stay but one
  lent_off : (d e q : ℕ) → F < R → d ≤ u → p ≡ q + u → e ≤ u → d * 2 ≤ (R - F) * 2 + v → (R - F) * 2 ≤ d * 2 + v → e * 2 ≤ (u - d) * 2 + v → (u - d) * 2 ≤ e * 2 + v → Off (q + e)
  lent_off d e q l m s o h k i j = (omega arith, omega arith, omega arith)

-- ---- the two cases

module _ (t : ClockTime) (x : Float) (g : Well t x) (h : too_little t x ≡ false) where
  abbrev F : ℕ
  F = scaled t.fraction

  abbrev R : ℕ
  R = scaled (fract_of x)

  abbrev n : ℕ
  n = t.ticks - whole_off x

  abbrev d : Float
  d = sub binary64 t.fraction (fract_of x)

  -- the ticks that stay, and those that go
  abbrev p : ℕ
  p = n * 2 ^ 1074

  abbrev b : ℕ
  b = whole_off x * 2 ^ 1074

  place_is : exact_of t ≡ p + b + F
  place_is = ap (λ (z : ℕ). z + F) (sym (sym (add-mul n (whole_off x) (2 ^ 1074)) ∙ ap (λ (z : ℕ). z * 2 ^ 1074) (whole t.ticks (whole_off x) (enough t x g h))))
    where
      whole : (a b : ℕ) → b ≤ a → a - b + b ≡ a
      whole a b l = omega arith

  by_place : (u : ClockTime) → u.clock ≡ t.clock → bad_fraction u.fraction ≡ false → Off F R (2 ^ 1074) (2 ^ 1021) p b (exact_of u) → Earlier t x u
  by_place u c f o = record {
    clock = c;
    fraction = f;
    not_later = le_trans o.0 (le_of_eq (sym place_is));
    above = fewer (exact_of u) (scaled x) (b + R) (exact_of t) (p + b + F) (2 ^ 1021) g.split.size place_is o.1;
    below = more (exact_of u) (scaled x) (b + R) (exact_of t) (p + b + F) (2 ^ 1021) g.split.size place_is o.2;
  }
    where
      fewer : (a s s' q q' v : ℕ) → s ≡ s' → q ≡ q' → a + s' ≤ q' + v → a + s ≤ q + v
      fewer a s s' q q' v e f l = omega arith

      more : (a s s' q q' v : ℕ) → s ≡ s' → q ≡ q' → q' ≤ a + s' + v → q ≤ a + s + v
      more a s s' q q' v e f l = omega arith

  -- nothing is borrowed
  kept : R ≤ F → Earlier t x (subtracted t x)
  kept l =
      let u = 2 ^ 1074 in
      let G = grid binary64 (F - R) u in
      let r = stays t.fraction (fract_of x) g.double (sub-fits binary64 x (whole_of x)) g.fraction (rest t x g) l in
      let at = time_at t.clock n d in
      let e : subtracted t x ≡ at = rw (not_negative d G u r.value) in
      subst (Earlier t x) (sym e)
      (by_place at refl (not_refused d G u r.value (lt_of_le_of_lt r.most g.fraction.below))
      (subst (λ (z : ℕ). Off F R u (2 ^ 1021) p b (p + z)) (sym (scaled_is d false G r.value)) (kept_off F R u (2 ^ 1021) p b G l r.most r.close.above r.close.below)))

  -- a tick is borrowed for what the fraction lacks
  module _ (l : F < R) where
    abbrev D : ℕ
    D = grid binary64 (R - F) (2 ^ 1074)

    lack : Rounded d true (R - F) R
    lack = lacks t.fraction (fract_of x) g.double (sub-fits binary64 x (whole_of x)) g.fraction (rest t x g) l

    lack_some : 0 < D
    lack_some = lack.close.some (minus_pos R F l)

    lack_below : D < 2 ^ 1074
    lack_below = lt_of_le_of_lt lack.most g.split.below

    abbrev e : Float
    e = add binary64 d one_f

    abbrev E : ℕ
    E = grid binary64 (2 ^ 1074 - D) (2 ^ 1074)

    -- what the tick leaves of it
    more : HasValue e false E (2 ^ 1074) × (E ≤ 2 ^ 1074)
    more =
        let u = 2 ^ 1074 in
        let r = rounded false (u - D) one_f u (unfold fits in tt) (refl, refl) (minus_le u D) in
        (subst (λ (z : Float). HasValue z false E u) (sym (sum_second d one_f true D u u (pow_pos 1074) lack.value (refl, refl) lack_below)) r.0, r.1)

    more_near : Near (2 ^ 1074 - D) E
    more_near = near (2 ^ 1074 - D) (less (2 ^ 1074) D lack_some lack_below)
      where
        less : (u d : ℕ) → 0 < d → d < u → u - d < u
        less u d h k = omega arith

    -- the ticks but one
    abbrev q : ℕ
    q = (n - 1) * 2 ^ 1074

    one_less : p ≡ q + 2 ^ 1074
    one_less = ap (λ (z : ℕ). z * 2 ^ 1074) (back n (minus_pos t.ticks (whole_off x) (lends t x g h l))) ∙ add-mul (n - 1) 1 (2 ^ 1074) ∙ ap (λ (z : ℕ). q + z) (one-mul (2 ^ 1074))
      where
        back : (n : ℕ) → 0 < n → n ≡ n - 1 + 1
        back n h = omega arith

    off_by : Off F R (2 ^ 1074) (2 ^ 1021) p b (q + E)
    off_by =
        lent_off F R (2 ^ 1074) (2 ^ 1021) p b D E q l (le_of_lt lack_below) one_less more.1 lack.close.above lack.close.below more_near.above more_near.below

    -- with the tick given back, or without it
    abbrev either : ClockTime
    either = cond (eq e one_f) (time_at t.clock n zero_f) (time_at t.clock (n - 1) e)

    lent : Earlier t x (subtracted t x)
    unfolding scaled lt
    lent =
        let a : subtracted t x ≡ either = rw (negative_is d D (2 ^ 1074) lack.value lack_some) in
        subst (Earlier t x) (sym a) (go (eqb E (2 ^ 1074)) (eqb-true E (2 ^ 1074)) (eqb-false E (2 ^ 1074)) (whole_one e E (2 ^ 1074) (pow_pos 1074) more.0))
      where
        full : (p q u e : ℕ) → p ≡ q + u → e ≡ u → q + e ≡ p + 0
        full p q u e h k = omega arith

        short : (a b : ℕ) → a ≤ b → (a ≡ b → ⊥) → a < b
        short a b l n = omega (arith, n)

        go : (y : Bool) → (y ≡ true → E ≡ 2 ^ 1074) → (y ≡ false → E ≡ 2 ^ 1074 → ⊥) → eq e one_f ≡ y → Earlier t x either
        go true i j k =
            let at = time_at t.clock n zero_f in
            let c : either ≡ at = rw k in
            subst (Earlier t x) (sym c) (by_place at refl refl (subst (Off F R (2 ^ 1074) (2 ^ 1021) p b) (full p q (2 ^ 1074) E one_less (i refl)) off_by))
        go false i j k =
            let at = time_at t.clock (n - 1) e in
            let c : either ≡ at = rw k in
            subst (Earlier t x) (sym c)
            (by_place at refl (not_refused e E (2 ^ 1074) more.0 (short E (2 ^ 1074) more.1 (j refl))) (subst (λ (z : ℕ). Off F R (2 ^ 1074) (2 ^ 1021) p b (q + z)) (sym (scaled_is e false E more.0)) off_by))

  pub taken_off : Earlier t x (subtracted t x)
  taken_off = go (dec_le R F)
    where
      go : Dec (R ≤ F) → Earlier t x (subtracted t x)
      go (yes l) = kept l
      go (no m) = lent (lt_of_not-le m)

-- ---- what the definition of the answer tells

-- an accepted answer: nothing is wrong, and the time is the rule's
pub record Granted (t : ClockTime) (x : Float) (u : ClockTime) : Type 0 where
  pub faults : first_fault (shift_faults t x) ≡ 0
  pub holds : too_little t x ≡ false
  pub is : subtracted t x ≡ u

granted : (t : ClockTime) (x : Float) (u : ClockTime) → earlier_of t x ≡ accepted u → Granted t x u
unfolding earlier_of first_fault
granted t x u e = go (number_of c) refl e
  where
    c : Conditions
    c = of_shift (shift_faults t x) false (too_little t x)

    go : (m : ℕ) → number_of c ≡ m → decided m (accepted (subtracted t x)) refused ≡ accepted u → Granted t x u
    go zero h i =
        let k = nothing_wrong c h in
        record { faults = ap (λ (j : Conditions). first_fault j.faults) k; holds = ap (λ (j : Conditions). j.before_zero) k; is = cc }
    go (suc m) h i =
        let f : eqb (suc m) 0 ≡ false = ne_eqb (suc m) 0 (λ (q : suc m ≡ 0). omega arith) in
        absurd (clash (rw f at i))
      where
        clash : refused (suc m) ≡ accepted u → ⊥
        clash i = cc

refused_so : (t : ClockTime) (x : Float) → BeforeZero t x (earlier_of t x)
unfolding earlier_of number_of
refused_so t x = record {
  given = λ h l. sym (below f false (too_little t x) (subtracted t x) refl (sym h) refl (lt-ltb (exact_of t) (scaled x) l));
  only = λ e. go (first_fault f) refl (too_little t x) (ltb-true (exact_of t) (scaled x)) (to_six f) (sym (refused_by _ _ _ e) ∙ arguments_first false false false false (too_little t x) f);
}
  where
    f : Faults
    f = shift_faults t x

    go : (k : ℕ) → first_fault f ≡ k → (y : Bool) → (y ≡ true → exact_of t < scaled x) → first_fault f ≤ 6 → BEFORE_ZERO ≡ decided k (cond y BEFORE_ZERO 0) (λ n. n) → (first_fault f ≡ 0) × (exact_of t < scaled x)
    go zero h true l m e = (h, l refl)
    go zero h false l m e = absurd (omega arith)
    go (suc k) h y l m e =
        let z : eqb (suc k) 0 ≡ false = ne_eqb (suc k) 0 (λ (q : suc k ≡ 0). omega arith) in
        let n : 12 ≡ suc k = rw z at e in
        absurd (omega arith)

-- ---- the entries: a double is taken off by a subtraction, or by adding its opposite

module _ (t : ClockTime) (x : Float) (D : T (fits binary64 t.fraction)) (X : T (fits binary64 x)) where
  earlier_law : sign_of x ≡ false → (u : ClockTime) → earlier_of t x ≡ accepted u → Earlier t x u
  earlier_law s u e = let k = granted t x u e in subst (Earlier t x) k.is (taken_off t x (well t x D X s k.faults) k.holds)

  pub sub_earlier : sign_of x ≡ false → (u : ClockTime) → try_sub_float_of t x ≡ accepted u → Earlier t x u
  sub_earlier s u e = earlier_law s u (sub_plain t x s ∙ e)

pub add_earlier : (t : ClockTime) (x : Float) → T (fits binary64 t.fraction) → T (fits binary64 x) → sign_of x ≡ true → (u : ClockTime) → try_add_float_of t x ≡ accepted u → Earlier t (neg x) u
add_earlier t x D X s u e = sub_earlier t (neg x) D (neg-fits binary64 x X) (no_sign x s) u (add_opposite t x s ∙ e)

pub before_zero_lem : (t : ClockTime) (x : Float) → sign_of x ≡ false → BeforeZero t x (try_sub_float_of t x)
before_zero_lem t x s = subst (BeforeZero t x) (sub_plain t x s) (refused_so t x)

pub before_zero_added : (t : ClockTime) (x : Float) → sign_of x ≡ true → BeforeZero t (neg x) (try_add_float_of t x)
before_zero_added t x s = subst (BeforeZero t (neg x)) (add_opposite t x s) (before_zero_lem t (neg x) (no_sign x s))

-- ---- 0 off

module _ (t : ClockTime) (D : T (fits binary64 t.fraction)) (h : bad_fraction t.fraction ≡ false) where
  no_fault : first_fault (shift_faults t zero_f) ≡ 0
  unfolding first_fault lt
  no_fault = rw h

  nothing : scaled zero_f ≡ 0
  unfolding scaled
  nothing = refl

  same : subtracted t zero_f ≡ t
  unfolding to_unsigned sub
  same =
      let F = fraction t.fraction D h in
      let u = 2 ^ 1074 in
      let S = scaled t.fraction in
      let d : sub binary64 t.fraction zero_f ≡ t.fraction =
      difference t.fraction zero_f S 0 u (pow_pos 1074) F.value (refl, refl) zero-le ∙ ap (λ (z : ℕ). round binary64 false z u) (sub-zero S) ∙ sym (held binary64 t.fraction false S u (pow_pos 1074) D F.value) in
      rw (d, not_negative t.fraction S u F.value, sub-zero t.ticks)

  zero_earlier : earlier_of t zero_f ≡ accepted t
  unfolding earlier_of
  zero_earlier = sym (clear (shift_faults t zero_f) false (too_little t zero_f) (subtracted t zero_f) refl (sym no_fault) refl (le-ltb (exact_of t) (scaled zero_f) (rw nothing zero-le))) ∙ ap accepted same

  pub zero_off : try_sub_float_of t zero_f ≡ accepted t
  zero_off = sym (sub_plain t zero_f refl) ∙ zero_earlier

  pub minus_zero_on : try_add_float_of t (neg zero_f) ≡ accepted t
  unfolding neg
  minus_zero_on = sym (add_opposite t (neg zero_f) refl) ∙ zero_off
