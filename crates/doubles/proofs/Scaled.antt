-- Doubles as whole numbers: in units of 2^-1074 every finite double is one. What a double is worth in units, what its
-- whole part and its fraction are, what a difference is before it is rounded, and how far the rounding goes.
-- RULES, exact-size. Assumes nothing.
use Prim.Native.Nat.{ℕ, zero, suc, ◌+◌, ◌-◌, ◌*◌, ◌/◌, ◌%◌, ◌^◌, ◌≤◌, ◌<◌}
use native.Mathlib.Decide.{ℕ_discrete}
use native.Mathlib.Nat.{zero-lt-suc, eq-zero-or-pos, mul-one, one-mul, le_trans, le_of_eq, lt_of_lt_of_le, lt_of_le_of_lt, mod-lt, add-mul, mul_assoc, mul_comm, mul_right_comm, mul-pos, mul-div_cancel, mul-lt-mul_of_pos_right, lt_of_mul-lt-mul_right, mul-le-mul_right, le_of_mul-le-mul_right, eq_of_mul-eq-mul_right, div-add-mod'}
use native.Mathlib.Omega.{arith}
use mathlib.Core.Path.{◌≡◌, refl, sym, ap, ◌∙◌, subst}
use mathlib.Core.Logic.{inl, inr}
use mathlib.Core.Bool.{Bool, true, false, not, ◌&&◌, beq, true≢false, false≢true}
use lib.Dec.{T, eqb}
use lib.Pow.{pow_pos, pow_mono}
use lib.Ieee.{Float, nan, inf, fin, binary64, up, down, size, round, neg, add, sub, sum, lt, eq, fits}
use lib.Ieee.Digits.{size-lt, size_reaches, size-le}
use lib.Ieee.Exact.{HasValue}
use lib.Ieee.Fits.{down_pos, sub-fits}
use lib.Ieee.Nearest.{closest}
use lib.Ieee.Positive.{num, den}
use lib.Ieee.Scale.{finite, grid, round_same}
use borrow.Author.Tests.{lt-ltb, le-ltb, eq-eqb, ne_eqb}
use Rattle.doubles.specs.Doubles.{zero_f, one_f, sign_of, fract_of, scaled}
use Rattle.doubles.proofs.Quotients.{units_of}
use Rattle.doubles.proofs.Ranges.{closest_over, closest_under, grid_whole, minus, fract_value}
use Rattle.doubles.proofs.Rest.{fract_rest}
use Rattle.doubles.proofs.Unit.{round_value, grid_le}

-- ---- the size of a double

-- from one fraction to another of the same size
pub rescale : (x : Float) (s : Bool) (w l a c : ℕ) → 0 < l → a * l ≡ w * c → HasValue x s w l → HasValue x s a c
rescale nan s w l a c p h v = v
rescale (inf t) s w l a c p h v = v
rescale (fin t m e) s w l a c p h v = (
  v.0,
  eq_of_mul-eq-mul_right l p (m * up e * c) (a * down e)
      (mul_right_comm (m * up e) c l ∙ ap (λ (z : ℕ). z * c) v.1 ∙ mul_right_comm w (down e) c ∙ ap (λ (z : ℕ). z * down e) (sym h) ∙ mul_right_comm a l (down e)),
)

-- a double has one size
pub one_size : (x : Float) (s t : Bool) (a c b d : ℕ) → HasValue x s a c → HasValue x t b d → a * d ≡ b * c
one_size nan s t a c b d v w = absurd v
one_size (inf u) s t a c b d v w = absurd v
one_size (fin u m e) s t a c b d v w =
    eq_of_mul-eq-mul_right (down e) (down_pos e) (a * d) (b * c)
    (mul_right_comm a d (down e) ∙ ap (λ (z : ℕ). z * d) (sym v.1) ∙ mul_right_comm (m * up e) c d ∙ ap (λ (z : ℕ). z * c) w.1 ∙ mul_right_comm b (down e) c)

pub value_finite : (x : Float) (s : Bool) (a c : ℕ) → HasValue x s a c → T (finite x) × (sign_of x ≡ s)
value_finite nan s a c v = absurd v
value_finite (inf t) s a c v = absurd v
value_finite (fin t m e) s a c v = (tt, v.0)

pub scaled_is : (x : Float) (s : Bool) (n : ℕ) → HasValue x s n (2 ^ 1074) → scaled x ≡ n
unfolding scaled
scaled_is nan s n v = absurd v
scaled_is (inf t) s n v = absurd v
scaled_is (fin t m e) s n v = ap (λ (z : ℕ). z / down e) v.1 ∙ mul-div_cancel n (down_pos e)

-- `scaled` loses nothing of a finite double
pub scaled_value : (x : Float) → T (fits binary64 x) → T (finite x) → HasValue x (sign_of x) (scaled x) (2 ^ 1074)
unfolding scaled
scaled_value nan F H = absurd H
scaled_value (inf t) F H = absurd H
scaled_value (fin s m e) F H =
    let u = units_of binary64 (fin s m e) F H in
    (refl, u.1 ∙ ap (λ (z : ℕ). z * down e) (sym (ap (λ (z : ℕ). z / down e) u.1 ∙ mul-div_cancel u.0 (down_pos e))))

-- ---- whole part and fraction

-- a double of n whole ones and its fraction
pub record Split (x : Float) (n : ℕ) : Type 0 where
  pub size : scaled x ≡ n * 2 ^ 1074 + scaled (fract_of x)
  pub rest : HasValue (fract_of x) false (scaled (fract_of x)) (2 ^ 1074)
  pub below : scaled (fract_of x) < 2 ^ 1074

-- the sizes M / D and S / U of one number, whose rest beyond the whole part is M % D / D and s / U
module _ (M D U S s : ℕ) (P : 0 < D) (v : M * U ≡ S * D) (w : M % D * U ≡ s * D) where
  parted : S ≡ M / D * U + s
  parted =
      eq_of_mul-eq-mul_right D P S (M / D * U + s)
      (sym v
      ∙ ap (λ (z : ℕ). z * U) (sym (div-add-mod' M D))
      ∙ add-mul (M / D * D) (M % D) U
      ∙ ap (λ (z : ℕ). z + M % D * U) (mul_right_comm (M / D) D U)
      ∙ ap (λ (z : ℕ). M / D * U * D + z) w
      ∙ sym (add-mul (M / D * U) s D))

  short : 0 < U → s < U
  short Q = lt_of_mul-lt-mul_right D (lt_of_le_of_lt (le_of_eq (sym w)) (lt_of_lt_of_le (mul-lt-mul_of_pos_right (mod-lt M P) Q) (le_of_eq (mul_comm D U))))

pub split : (x : Float) → T (fits binary64 x) → T (finite x) → sign_of x ≡ false → Split x (num x / den x)
split nan F H s = absurd H
split (inf t) F H s = absurd H
split (fin true m e) F H s = absurd (true≢false s)
split (fin false m e) F H s =
    let x = fin false m e in
    let M = m * up e in
    let D = down e in
    let y = fract_of x in
    let v : HasValue y false (M % D) D = subst (λ (z : Float). HasValue z false (M % D) D) (sym (fract_rest false m e F)) (fract_value false false m e F) in
    let k = value_finite y false (M % D) D v in
    let w : HasValue y false (scaled y) (2 ^ 1074) = subst (λ (b : Bool). HasValue y b (scaled y) (2 ^ 1074)) k.1 (scaled_value y (sub-fits binary64 x _) k.0) in
    let c : M % D * 2 ^ 1074 ≡ scaled y * D = one_size y false false (M % D) D (scaled y) (2 ^ 1074) v w in
    record {
      size = parted M D (2 ^ 1074) (scaled x) (scaled y) (down_pos e) (scaled_value x F tt).1 c;
      rest = w;
      below = short M D (2 ^ 1074) (scaled x) (scaled y) (down_pos e) (scaled_value x F tt).1 c (pow_pos 1074);
    }

-- ---- tests, of a double of the size a / c

pub negative_is : (x : Float) (a c : ℕ) → HasValue x true a c → 0 < a → lt x zero_f ≡ true
unfolding lt
negative_is nan a c v h = absurd v
negative_is (inf s) a c v h = absurd v
negative_is (fin false m e) a c v h = absurd (false≢true v.0)
negative_is (fin true m e) a c v h = lt-ltb 0 (m * up e * 1 + 0 * down e) (some (m * up e) (down e) (a * down e) c (mul-pos h (down_pos e)) v.1)
  where
    some : (M D p c : ℕ) → 0 < p → M * c ≡ p → 0 < M * 1 + 0 * D
    some M D p c h e = elim (eq-zero-or-pos M) [
      | inl z ↦ let k : M * c ≡ 0 * c = ap (λ (n : ℕ). n * c) z in absurd (omega arith)
      | inr l ↦ omega arith
    ]

pub not_negative : (x : Float) (a c : ℕ) → HasValue x false a c → lt x zero_f ≡ false
unfolding lt
not_negative nan a c v = absurd v
not_negative (inf s) a c v = absurd v
not_negative (fin true m e) a c v = absurd (true≢false v.0)
not_negative (fin false m e) a c v = le-ltb (m * up e * 1) (0 * down e) (omega arith)

pub whole_one : (x : Float) (a c : ℕ) → 0 < c → HasValue x false a c → eq x one_f ≡ eqb a c
unfolding eq
whole_one nan a c C v = absurd v
whole_one (inf s) a c C v = absurd v
whole_one (fin true m e) a c C v = absurd (true≢false v.0)
whole_one (fin false m e) a c C v = go (ℕ_discrete a c)
  where
    M : ℕ
    M = m * up e

    D : ℕ
    D = down e

    level : a ≡ c → M * 1 ≡ 1 * D
    level i = mul-one M ∙ eq_of_mul-eq-mul_right c C M D (v.1 ∙ ap (λ (z : ℕ). z * D) i ∙ mul_comm c D) ∙ sym (one-mul D)

    back : M * 1 ≡ 1 * D → a ≡ c
    back i = eq_of_mul-eq-mul_right D (down_pos e) a c (sym v.1 ∙ ap (λ (z : ℕ). z * c) (sym (mul-one M) ∙ i ∙ one-mul D) ∙ mul_comm D c)

    go : Dec (a ≡ c) → (eqb (M * 1) (1 * D) && true) ≡ eqb a c
    go (yes i) = rw (eq-eqb (M * 1) (1 * D) (level i), eq-eqb a c i)
    go (no n) = rw (ne_eqb (M * 1) (1 * D) (λ i. n (back i)), ne_eqb a c n)

-- ---- two sizes M / D and N / E that are a / c and b / c

module _ (M N D E a b c : ℕ) (C : 0 < c) (p : M * c ≡ a * D) (q : N * c ≡ b * E) where
  left : M * E * c ≡ a * (D * E)
  left = mul_right_comm M E c ∙ ap (λ (z : ℕ). z * E) p ∙ mul_assoc a D E

  right : N * D * c ≡ b * (D * E)
  right = mul_right_comm N D c ∙ ap (λ (z : ℕ). z * D) q ∙ mul_assoc b E D ∙ ap (λ (z : ℕ). b * z) (mul_comm E D)

  pub crossed_le : b ≤ a → N * D ≤ M * E
  crossed_le h = le_of_mul-le-mul_right (le_trans (le_of_eq right) (le_trans (mul-le-mul_right (D * E) h) (le_of_eq (sym left)))) C

  pub crossed_lt : 0 < D * E → a < b → M * E < N * D
  crossed_lt P h = lt_of_mul-lt-mul_right c (lt_of_le_of_lt (le_of_eq left) (lt_of_lt_of_le (mul-lt-mul_of_pos_right h P) (le_of_eq (sym right))))

-- ---- a sum of doubles of unlike signs, a / c and b / c in size: their difference, rounded

opposite : (y : Float) (s : Bool) (b c : ℕ) → HasValue y s b c → HasValue (neg y) (not s) b c
unfolding neg
opposite nan s b c v = absurd v
opposite (inf t) s b c v = absurd v
opposite (fin t n d) s b c v = (ap not v.0, v.1)

-- where the second is the larger one, the sum has its sign
pub sum_second : (x y : Float) (s : Bool) (a b c : ℕ) → 0 < c → HasValue x s a c → HasValue y (not s) b c → a < b → add binary64 x y ≡ round binary64 (not s) (b - a) c
unfolding add sum
sum_second nan y s a b c C v w h = absurd v
sum_second (inf t) y s a b c C v w h = absurd v
sum_second (fin t m e) nan s a b c C v w h = absurd w
sum_second (fin t m e) (inf u) s a b c C v w h = absurd w
sum_second (fin t m e) (fin u n d) s a b c C v w h =
    let A = m * up e * down d in
    let B = n * up d * down e in
    let K = down e * down d in
    let P = mul-pos (down_pos e) (down_pos d) in
    rw (v.0, w.0, unlike s, lt-ltb A B (crossed_lt (m * up e) (n * up d) (down e) (down d) a b c C v.1 w.1 P h))
    (round_same binary64 (not s) (B - A) K (b - a) c P C
    (minus (n * up d) (down d) (m * up e) (down e) c b a w.1 v.1 ∙ ap (λ (z : ℕ). (b - a) * z) (mul_comm (down d) (down e))))
  where
    unlike : (s : Bool) → beq s (not s) ≡ false
    unlike true = refl
    unlike false = refl

-- where the first is, and has no minus sign, the sum has none, a zero neither
pub sum_first : (x y : Float) (a b c : ℕ) → 0 < c → HasValue x false a c → HasValue y true b c → b ≤ a → add binary64 x y ≡ round binary64 false (a - b) c
unfolding add sum
sum_first nan y a b c C v w h = absurd v
sum_first (inf t) y a b c C v w h = absurd v
sum_first (fin t m e) nan a b c C v w h = absurd w
sum_first (fin t m e) (inf u) a b c C v w h = absurd w
sum_first (fin t m e) (fin u n d) a b c C v w h =
    let A = m * up e * down d in
    let B = n * up d * down e in
    let K = down e * down d in
    rw (v.0, w.0, le-ltb A B (crossed_le (m * up e) (n * up d) (down e) (down d) a b c C v.1 w.1 h))
    (round_same binary64 false (A - B) K (a - b) c (mul-pos (down_pos e) (down_pos d)) C
    (minus (m * up e) (down e) (n * up d) (down d) c a b v.1 w.1))

-- so the difference of two that have no minus sign keeps its sign through the rounding
module _ (x y : Float) (a b c : ℕ) (C : 0 < c) (v : HasValue x false a c) (w : HasValue y false b c) where
  pub difference : b ≤ a → sub binary64 x y ≡ round binary64 false (a - b) c
  unfolding sub
  difference h = sum_first x (neg y) a b c C v (opposite y false b c w) h

  pub difference_below : a < b → sub binary64 x y ≡ round binary64 true (b - a) c
  unfolding sub
  difference_below h = sum_second x (neg y) false a b c C v (opposite y false b c w) h

-- ---- rounding in units, below 1: half of 2^-53 at most

unit : (z : ℕ) → z < 2 ^ 1074 → 2 ^ (size z - 53) ≤ 2 ^ 1021
unit z h = let k : size z ≤ 1074 = size-le z 1074 h in pow_mono (few (size z) k)
  where
    few : (s : ℕ) → s ≤ 1074 → s - 53 ≤ 1021
    few s h = omega arith

-- z units rounded to g
pub record Near (z g : ℕ) : Type 0 where
  pub above : g * 2 ≤ z * 2 + 2 ^ 1021
  pub below : z * 2 ≤ g * 2 + 2 ^ 1021
  -- and what is not 0 stays so
  pub some : 0 < z → 0 < g

pub near : (z : ℕ) → z < 2 ^ 1074 → Near z (grid binary64 z (2 ^ 1074))
near z h =
    let k = size z - 53 in
    let u = unit z h in
    let o = closest_over z (2 ^ k) (pow_pos k) in
    let n = closest_under z (2 ^ k) (pow_pos k) in
    subst (Near z) (sym (grid_whole binary64 z)) (record {
      above = up_to (closest z (2 ^ k) * 2 ^ k) z (2 ^ k) (2 ^ 1021) o u;
      below = up_to z (closest z (2 ^ k) * 2 ^ k) (2 ^ k) (2 ^ 1021) n u;
      some = λ p. left (closest z (2 ^ k) * 2 ^ k) z (2 ^ k) n p (size_reaches z k (last (size z) (digits (size z) (size-lt z) p)));
    })
  where
    up_to : (a b u v : ℕ) → a * 2 ≤ b * 2 + u → u ≤ v → a * 2 ≤ b * 2 + v
    up_to a b u v p q = omega arith

    left : (g z u : ℕ) → z * 2 ≤ g * 2 + u → 0 < z → u ≤ z → 0 < g
    left g z u p q r = omega arith

    digits : (s : ℕ) → z < 2 ^ s → 0 < z → 0 < s
    digits zero l p = absurd (none z l p)
      where
        none : (z : ℕ) → z < 1 → 0 < z → ⊥
        none z l p = omega arith
    digits (suc s) l p = zero-lt-suc s

    last : (s : ℕ) → 0 < s → s - 53 < s
    last s p = omega arith

-- what z units, at most those of hi, round to, with either sign: no more than hi
pub rounded : (s : Bool) (z : ℕ) (hi : Float) (p : ℕ) → T (fits binary64 hi) → HasValue hi false p (2 ^ 1074) → z ≤ p → HasValue (round binary64 s z (2 ^ 1074)) s (grid binary64 z (2 ^ 1074)) (2 ^ 1074) × (grid binary64 z (2 ^ 1074) ≤ p)
rounded s z hi p F v h =
    let U = 2 ^ 1074 in
    let g = grid_le binary64 hi z U p U (pow_pos 1074) (pow_pos 1074) F v (mul-le-mul_right U h) in
    (round_value binary64 s z U g.0, le_of_mul-le-mul_right g.1 (pow_pos 1074))
