-- A finite double with no minus sign by its bits b: b / 2 ^ 52 is its exponent's field, and it is
-- (b % 2 ^ 52 + 2 ^ 52) * 2 ^ (b / 2 ^ 52 - 1) of the smallest doubles in size. Assumes nothing.
use mathlib.Core.Path.{◌≡◌, refl, sym, ap, ◌∙◌, subst}
use Prim.Native.Nat.{ℕ, zero, suc, ◌+◌, ◌-◌, ◌*◌, ◌/◌, ◌%◌, ◌^◌, ◌≤◌, ◌<◌}
use native.Mathlib.Nat.{lt_of_lt_of_le}
use native.Mathlib.Omega.{arith}
use mathlib.Core.Bool.{Bool, true, false}
use lib.Dec.{T, ltb, leb}
use lib.Pow.{pow_mono, shl_lt}
use lib.Ieee.{Float, binary64, fits, of_bits, to_bits}
use lib.Ieee.Exact.{HasValue}
use borrow.Author.Tests.{lt-leb, ltb-true, eqb-false}
use Rattle.doubles.specs.Doubles.{finite_of, sign_of}
use Rattle.doubles.proofs.Fields.{field, digits, place, value, of_bits_lem, bits_lt, field_mask, finite_is, sign_is}

-- the digits with the leading one, as the code reads them
abbrev pub digits_of : ℕ → ℕ
digits_of b = b % 4503599627370496 + 4503599627370496

pub digits_lt : (b : ℕ) → digits_of b < 2 ^ 53
digits_lt b = omega arith

-- the size in units of the smallest double, for a field x
abbrev pub amount : ℕ → ℕ → ℕ
amount x t = digits x t * 2 ^ place x

amount_at_lem : (x t : ℕ) → 0 < x → amount x t ≡ (t + 4503599627370496) * 2 ^ (x - 1)
amount_at_lem zero t h = absurd (no h)
  where
    no : 0 < 0 → ⊥
    no h = omega arith
amount_at_lem (suc x) t h = ap (λ (z : ℕ). z * 2 ^ x) (swap t) ∙ ap (λ (z : ℕ). (t + 4503599627370496) * 2 ^ z) (back x)
  where
    swap : (t : ℕ) → 2 ^ 52 + t ≡ t + 4503599627370496
    swap t = omega arith

    back : (x : ℕ) → x ≡ suc x - 1
    back x = omega arith

-- below a field of j: less than 2 ^ (52 + j) units
pub amount_lt : (x t j : ℕ) → t < 2 ^ 52 → 0 < j → x ≤ j → amount x t < 2 ^ (52 + j)
amount_lt zero t j l P h =
    let up : 52 + 0 ≤ 52 + j = omega arith in
    lt_of_lt_of_le (shl_lt 52 0 l) (pow_mono up)
amount_lt (suc x) t j l P h =
    let up : 53 + x ≤ 52 + j = omega arith in
    let l' : 2 ^ 52 + t < 2 ^ 53 = omega arith in
    lt_of_lt_of_le (shl_lt 53 x l') (pow_mono up)

module _ (x : Float) (F : T (fits binary64 x)) (b : ℕ) (is : b ≡ to_bits binary64 x) where
  pub value_clear : b / 4503599627370496 < 2047 → HasValue x false (amount (b / 4503599627370496) (b % 4503599627370496)) (2 ^ 1074)
  value_clear h =
      let B : b < 2 ^ 64 = bits_lt x F b is in
      let f : field b ≡ b / 4503599627370496 = omega arith in
      let s : leb (2 ^ 63) b ≡ false = lt-leb (2 ^ 63) b (omega arith) in
      let under : field b < 2047 = omega arith in
      subst (λ (v : Float). HasValue v false (amount (b / 4503599627370496) (b % 4503599627370496)) (2 ^ 1074)) (of_bits_lem x F b is)
      (subst (λ (j : ℕ). HasValue (of_bits binary64 b) false (amount j (b % 4503599627370496)) (2 ^ 1074)) f
      (subst (λ (t : Bool). HasValue (of_bits binary64 b) t (amount (field b) (b % 4503599627370496)) (2 ^ 1074)) s (value b under)))

  pub value_normal : 0 < b / 4503599627370496 → b / 4503599627370496 < 2047 → HasValue x false (digits_of b * 2 ^ (b / 4503599627370496 - 1)) (2 ^ 1074)
  value_normal p h = subst (λ (n : ℕ). HasValue x false n (2 ^ 1074)) (amount_at_lem (b / 4503599627370496) (b % 4503599627370496) p) (value_clear h)

  -- a finite double with no minus sign has such bits
  pub clear : finite_of x ≡ true → sign_of x ≡ false → b / 4503599627370496 < 2047
  clear f s =
      let B : b < 2 ^ 64 = bits_lt x F b is in
      let under : field b < 2047 = ltb-true (field b) 2047 (ap (λ (n : ℕ). ltb n 2047) (sym (field_mask b)) ∙ finite_is x F b is ∙ f) in
      let top : b / 2 ^ 63 ≡ 1 → ⊥ = eqb-false (b / 2 ^ 63) 1 (sign_is x F b is ∙ s) in
      let small : b / 2 ^ 63 < 1 = less (b / 2 ^ 63) (omega arith) top in
      omega arith
    where
      less : (n : ℕ) → n < 2 → (n ≡ 1 → ⊥) → n < 1
      less zero h f = omega arith
      less (suc zero) h f = absurd (f refl)
      less (suc (suc n)) h f = absurd (no n h)
        where
          no : (n : ℕ) → suc (suc n) < 2 → ⊥
          no n h = omega arith
