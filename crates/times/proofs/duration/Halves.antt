-- The whole number nearest to (p * 2 ^ 32 + l) / 2 ^ (k + 32), from p and l: the quotient and what is left of p by
-- 2 ^ k, and l; and so what `rounded` answers. Nothing here is about floats. Assumes nothing.
use mathlib.Core.Path.{◌≡◌, refl, sym, ap, ◌∙◌, subst}
use Prim.Native.Nat.{ℕ, suc, ◌+◌, ◌-◌, ◌*◌, ◌/◌, ◌%◌, ◌^◌, ◌≤◌, ◌<◌, compare, Ordering}
use native.Mathlib.Nat.{mod-lt, le_trans, le_antisymm, lt_of_lt_of_le, lt_of_le_of_lt, div-mul-le_self, add-mul, one-mul, mul_assoc, mod-eq_of_lt, mod-le, div-eq_of_lt, add-mul-div_right, add-mul-mod_self_right, zero-lt-suc}
use native.Mathlib.Omega.{arith}
use native.Mathlib.Numerals.{add-one}
use lib.Dec.{lit≤}
use lib.Arith.{digits_lt, digits_div, digits_mod}
use lib.Pow.{pow_pos, pow-add, shl_exact, shr_le, split}
use lib.Ieee.{nearest}
use lib.Ieee.Nearest.{closest}
use Rattle.times.proofs.duration.Compares.{compare_lt, compare_eq, compare_gt}

-- less than a half is 0
pub closest_zero : (a b : ℕ) → a * 2 < b → closest a b ≡ 0
closest_zero a b h =
    let l : a < b = omega arith in
    ap (λ (z : ℕ). nearest z (compare (a % b * 2) b)) (div-eq_of_lt l)
    ∙ ap (λ (z : ℕ). nearest 0 (compare (z * 2) b)) (mod-eq_of_lt l)
    ∙ ap (nearest 0) (compare_lt (a * 2) b h)

-- an even number of units more is that much more: it does not change which neighbour of a tie is even
pub closest_plus : (a v b : ℕ) → 0 < b → closest (a + v * 2 * b) b ≡ closest a b + v * 2
closest_plus a v b B =
    ap (λ (z : ℕ). nearest z (compare ((a + v * 2 * b) % b * 2) b)) (add-mul-div_right a (v * 2) B)
    ∙ ap (λ (z : ℕ). nearest (a / b + v * 2) (compare (z * 2) b)) (add-mul-mod_self_right a (v * 2) b)
    ∙ go (a / b) (compare (a % b * 2) b)
  where
    tie : (w : ℕ) → w + v * 2 + (w + v * 2) % 2 ≡ w + w % 2 + v * 2
    tie w = omega arith

    over : (w : ℕ) → suc (w + v * 2) ≡ suc w + v * 2
    over w = omega arith

    go : (w : ℕ) (o : Ordering) → nearest (w + v * 2) o ≡ nearest w o + v * 2
    go w Ordering.lt = refl
    go w Ordering.eq = tie w
    go w Ordering.gt = over w

-- ---- by the two parts
module _ (p l k : ℕ) (L : l < 4294967296) (K : 0 < k) where
  -- the quotient and the rest by 2 ^ k, and a half of that
  abbrev pub quotient : ℕ
  quotient = p / 2 ^ k

  abbrev pub rest : ℕ
  rest = p % 2 ^ k

  abbrev pub unit : ℕ
  unit = 2 ^ k * 4294967296

  parts : p * 4294967296 + l ≡ quotient * unit + (rest * 4294967296 + l)
  parts =
      ap (λ (z : ℕ). z * 4294967296 + l) (sym (split p k))
      ∙ ap (λ (z : ℕ). z + l) (add-mul (quotient * 2 ^ k) rest 4294967296 ∙ ap (λ (z : ℕ). z + rest * 4294967296) (mul_assoc quotient (2 ^ k) 4294967296))
      ∙ assoc (quotient * unit) (rest * 4294967296) l
    where
      assoc : (a b c : ℕ) → a + b + c ≡ a + (b + c)
      assoc a b c = omega arith

  fits : rest * 4294967296 + l < unit
  fits = digits_lt (mod-lt p (pow_pos k)) L

  by_parts : closest (p * 4294967296 + l) unit ≡ nearest quotient (compare ((rest * 4294967296 + l) * 2) unit)
  by_parts =
      ap (λ (z : ℕ). closest z unit) parts
      ∙ ap (λ (z : ℕ). nearest z (compare ((quotient * unit + (rest * 4294967296 + l)) % unit * 2) unit)) (digits_div quotient fits)
      ∙ ap (λ (z : ℕ). nearest quotient (compare (z * 2) unit)) (digits_mod quotient fits)

  unit_is : unit ≡ 2 ^ (k - 1) * 8589934592
  unit_is = ap (λ (z : ℕ). z * 4294967296) (ap (λ (z : ℕ). 2 ^ z) (one k K) ∙ pow-add 2 (k - 1) 1) ∙ mul_assoc (2 ^ (k - 1)) 2 4294967296
    where
      one : (k : ℕ) → 0 < k → k ≡ k - 1 + 1
      one k h = omega arith

  pub is_below : rest < 2 ^ (k - 1) → closest (p * 4294967296 + l) unit ≡ quotient
  is_below h = by_parts ∙ ap (nearest quotient) (compare_lt ((rest * 4294967296 + l) * 2) unit (subst (λ (u : ℕ). (rest * 4294967296 + l) * 2 < u) (sym unit_is) (go rest (2 ^ (k - 1)) h)))
    where
      go : (r t : ℕ) → r < t → (r * 4294967296 + l) * 2 < t * 8589934592
      go r t h = omega arith

  pub is_above : 2 ^ (k - 1) < rest → closest (p * 4294967296 + l) unit ≡ suc quotient
  is_above h = by_parts ∙ ap (nearest quotient) (compare_gt ((rest * 4294967296 + l) * 2) unit (subst (λ (u : ℕ). u < (rest * 4294967296 + l) * 2) (sym unit_is) (go rest (2 ^ (k - 1)) h)))
    where
      go : (r t : ℕ) → t < r → t * 8589934592 < (r * 4294967296 + l) * 2
      go r t h = omega arith

  pub is_more : rest ≡ 2 ^ (k - 1) → 0 < l → closest (p * 4294967296 + l) unit ≡ suc quotient
  is_more h m = by_parts ∙ ap (nearest quotient) (compare_gt ((rest * 4294967296 + l) * 2) unit (subst (λ (u : ℕ). u < (rest * 4294967296 + l) * 2) (sym unit_is) (go rest (2 ^ (k - 1)) h m)))
    where
      go : (r t : ℕ) → r ≡ t → 0 < l → t * 8589934592 < (r * 4294967296 + l) * 2
      go r t h m = omega arith

  pub is_tie : rest ≡ 2 ^ (k - 1) → l ≤ 0 → closest (p * 4294967296 + l) unit ≡ quotient + quotient % 2
  is_tie h m = by_parts ∙ ap (nearest quotient) (compare_eq ((rest * 4294967296 + l) * 2) unit (go rest (2 ^ (k - 1)) h m ∙ sym unit_is))
    where
      go : (r t : ℕ) → r ≡ t → l ≤ 0 → (r * 4294967296 + l) * 2 ≡ t * 8589934592
      go r t h m = omega arith

-- ---- `rounded`: the product's two parts, the upper one by 2 ^ k, and a half of that
abbrev pub low_of : ℕ → ℕ
low_of q = q % 4294967296 * 1953125

abbrev pub high_of : ℕ → ℕ
high_of q = q / 4294967296 * 1953125 + low_of q / 4294967296

abbrev pub n_of : ℕ → ℕ → ℕ
n_of q k = high_of q / 2 ^ k

abbrev pub rest_of : ℕ → ℕ → ℕ
rest_of q k = high_of q - n_of q k * 2 ^ k % 18446744073709551616

abbrev pub half_of : ℕ → ℕ
half_of k = 1 * 2 ^ (k - 1) % 18446744073709551616

abbrev pub nearest_of : ℕ → ℕ → ℕ
nearest_of q k = closest (q * 1953125) (2 ^ k * 4294967296)

-- what the shifts keep: nothing is lost
pub back_le : (q k : ℕ) → n_of q k * 2 ^ k % 18446744073709551616 ≤ high_of q
back_le q k = le_trans (mod-le (n_of q k * 2 ^ k) 18446744073709551616) (div-mul-le_self (high_of q) (2 ^ k))

module _ (q k : ℕ) (Q : q < 18446744073709551616) (K : 0 < k) (H : k < 64) where
  high_lt : high_of q < 2 ^ 53
  high_lt = omega arith

  pub n_lt : n_of q k < 2 ^ 53
  n_lt = lt_of_le_of_lt (shr_le (high_of q) k) high_lt

  rest_is : rest_of q k ≡ high_of q % 2 ^ k
  rest_is =
      let m = n_of q k * 2 ^ k in
      let l : m < 18446744073709551616 = lt_of_le_of_lt (div-mul-le_self (high_of q) (2 ^ k)) (lt_of_lt_of_le high_lt (lit≤ tt)) in
      ap (λ (z : ℕ). high_of q - z) (mod-eq_of_lt l) ∙ go (high_of q) m (high_of q % 2 ^ k) (split (high_of q) k)
    where
      go : (h m r : ℕ) → m + r ≡ h → h - m ≡ r
      go h m r e = omega arith

  half_is : half_of k ≡ 2 ^ (k - 1)
  half_is =
      let s : 1 + (k - 1) ≤ 64 = omega arith in
      shl_exact 1 (k - 1) 64 (lit≤ tt) s ∙ one-mul (2 ^ (k - 1))

  product : high_of q * 4294967296 + low_of q % 4294967296 ≡ q * 1953125
  product = omega arith

  -- the answer by the two parts
  of_parts : {n : ℕ} → closest (high_of q * 4294967296 + low_of q % 4294967296) (2 ^ k * 4294967296) ≡ n → n ≡ nearest_of q k
  of_parts e = sym e ∙ ap (λ (z : ℕ). closest z (2 ^ k * 4294967296)) product

  L : low_of q % 4294967296 < 4294967296
  L = mod-lt (low_of q) (zero-lt-suc 4294967295)

  pub down_to : rest_of q k < half_of k → n_of q k ≡ nearest_of q k
  down_to h = of_parts (is_below (high_of q) (low_of q % 4294967296) k L K (rw (rest_is, half_is) at h))

  pub up_from : half_of k < rest_of q k → n_of q k + 1 ≡ nearest_of q k
  up_from h = add-one (n_of q k) ∙ of_parts (is_above (high_of q) (low_of q % 4294967296) k L K (rw (rest_is, half_is) at h))

  level : half_of k ≤ rest_of q k → rest_of q k ≤ half_of k → high_of q % 2 ^ k ≡ 2 ^ (k - 1)
  level g h = sym rest_is ∙ le_antisymm h g ∙ half_is

  pub up_by_low : half_of k ≤ rest_of q k → rest_of q k ≤ half_of k → 0 < low_of q % 4294967296 → n_of q k + 1 ≡ nearest_of q k
  up_by_low g h l = add-one (n_of q k) ∙ of_parts (is_more (high_of q) (low_of q % 4294967296) k L K (level g h) l)

  pub to_even : half_of k ≤ rest_of q k → rest_of q k ≤ half_of k → low_of q % 4294967296 ≤ 0 → n_of q k + n_of q k % 2 ≡ nearest_of q k
  to_even g h l = of_parts (is_tie (high_of q) (low_of q % 4294967296) k L K (level g h) l)
