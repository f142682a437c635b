-- What `to_u64` answers: by the double's size in units of 2 ^ -1074, and then by its bits. RULES, whole-number. Assumes
-- nothing.
use mathlib.Core.Path.{◌≡◌, refl, sym, ap, ◌∙◌}
use Prim.Native.Nat.{ℕ, ◌+◌, ◌-◌, ◌*◌, ◌/◌, ◌%◌, ◌^◌, ◌≤◌, ◌<◌, min}
use native.Mathlib.Nat.{le_trans, lt_of_lt_of_le, le_of_lt, zero-mul, zero-div, mul_assoc, mul-le-mul_right, mul-le-mul_left, le-div_iff_mul-le, div-eq_of_lt}
use native.Mathlib.Omega.{arith}
use mathlib.Core.Bool.{true, false, true≢false, false≢true}
use lib.IntN.{pos}
use lib.Dec.{T, ltb, lit≤}
use lib.Pow.{pow_pos, pow-add, pow_mono, shl_lt, shl_exact, shl-shr, shr-shr, shr_le, le_ones}
use lib.Ieee.{Float, nan, inf, fin, binary64, up, down, fits, lt, to_unsigned, of_bits, to_bits}
use lib.Ieee.Fits.{down_pos}
use lib.Ieee.Exact.{HasValue}
use lib.Ieee.Nearest.{div_same}
use borrow.Author.Tests.{ltb-false}
use Rattle.doubles.proofs.Read.{digits_of, digits_lt, amount, amount_lt, value_clear, value_normal, clear}

-- a double of the size n / l with no minus sign
pub by_value : (x : Float) (n l : ℕ) → 0 < l → HasValue x false n l → to_unsigned 64 x ≡ min (n / l) (2 ^ 64 - 1)
unfolding to_unsigned
by_value nan n l L v = absurd v
by_value (inf t) n l L v = absurd v
by_value (fin true m e) n l L v = absurd (true≢false v.0)
by_value (fin false m e) n l L v = ap (λ (z : ℕ). min z (2 ^ 64 - 1)) (div_same (m * up e) (down e) n l (down_pos e) L v.1)

inside : (a c : ℕ) → a ≤ c → min a c ≡ a
inside a c h = omega arith

capped : (a c : ℕ) → c ≤ a → min a c ≡ c
capped a c h = omega arith

-- ---- the test against 0.0

zero_is : of_bits binary64 0 ≡ fin false 0 (pos 0)
unfolding of_bits
zero_is = refl

none : (m u d : ℕ) → 0 < d → ltb (0 * 1 * d) (m * u * 1) ≡ false → min (m * u / d) (2 ^ 64 - 1) ≡ 0
none m u d P h = ap (λ (z : ℕ). min z (2 ^ 64 - 1)) (ap (λ (z : ℕ). z / d) (gone (m * u) (0 * 1 * d) (zero-mul d) (ltb-false (0 * 1 * d) (m * u * 1) h)) ∙ zero-div d) ∙ inside 0 (2 ^ 64 - 1) (lit≤ tt)
  where
    gone : (a z : ℕ) → z ≡ 0 → a * 1 ≤ z → a ≡ 0
    gone a z e h = omega arith

pub not_above : (x : Float) → lt (of_bits binary64 0) x ≡ false → to_unsigned 64 x ≡ 0
unfolding to_unsigned lt
not_above nan h = refl
not_above (inf true) h = refl
not_above (inf false) h = absurd (true≢false (ap (λ (y : Float). lt y (inf false)) (sym zero_is) ∙ h))
not_above (fin true m e) h = refl
not_above (fin false m e) h = none m (up e) (down e) (down_pos e) (ap (λ (y : Float). lt y (fin false m e)) (sym zero_is) ∙ h)

many : (q j : ℕ) → 2 ^ 52 ≤ q → 1086 ≤ j → 2 ^ 64 * 2 ^ 1074 ≤ q * 2 ^ j
many q j Q h =
    let l : 2 ^ 64 * 2 ^ 1074 ≤ 2 ^ 52 * 2 ^ 1086 = lit≤ tt in
    le_trans l (le_trans (mul-le-mul_right (2 ^ 1086) Q) (mul-le-mul_left q (pow_mono h)))

pub huge : (x : Float) → T (fits binary64 x) → (b : ℕ) → b ≡ to_bits binary64 x → 1086 < b / 4503599627370496 → lt (of_bits binary64 0) x ≡ true → to_unsigned 64 x ≡ 18446744073709551615
unfolding to_unsigned lt
huge nan F b is g h = absurd (false≢true (ap (λ (y : Float). lt y nan) (sym zero_is) ∙ h))
huge (inf true) F b is g h = absurd (false≢true (ap (λ (y : Float). lt y (inf true)) (sym zero_is) ∙ h))
huge (inf false) F b is g h = refl
huge (fin true m e) F b is g h = absurd (false≢true (ap (λ (y : Float). lt y (fin true m e)) (sym zero_is) ∙ h))
huge (fin false m e) F b is g h =
    let x = fin false m e in
    let j = b / 4503599627370496 - 1 in
    let n = digits_of b * 2 ^ j in
    let p : 0 < b / 4503599627370496 = omega arith in
    let q : 2 ^ 52 ≤ digits_of b = omega arith in
    let J' : 1086 ≤ j = omega arith in
    let l : 2 ^ 64 - 1 ≤ 2 ^ 64 = lit≤ tt in
    by_value x n (2 ^ 1074) (pow_pos 1074) (value_normal x F b is p (clear x F b is refl refl))
    ∙ capped (n / 2 ^ 1074) (2 ^ 64 - 1) (le_trans l ((le-div_iff_mul-le (pow_pos 1074)).1 (many (digits_of b) j q J')))

module _ (x : Float) (F : T (fits binary64 x)) (b : ℕ) (is : b ≡ to_bits binary64 x) where
  -- ---- a field below 1023: below 1
  pub tiny : b / 4503599627370496 < 1023 → to_unsigned 64 x ≡ 0
  tiny h =
      let n = amount (b / 4503599627370496) (b % 4503599627370496) in
      let t : b % 4503599627370496 < 2 ^ 52 = omega arith in
      let p : 0 < 1022 = omega arith in
      let l : b / 4503599627370496 ≤ 1022 = omega arith in
      let u : b / 4503599627370496 < 2047 = omega arith in
      by_value x n (2 ^ 1074) (pow_pos 1074) (value_clear x F b is u)
      ∙ ap (λ (z : ℕ). min z (2 ^ 64 - 1)) (div-eq_of_lt (amount_lt (b / 4503599627370496) (b % 4503599627370496) 1022 t p l))
      ∙ inside 0 (2 ^ 64 - 1) (lit≤ tt)

  -- ---- below 1075: some digits stand below the binary point
  pub cut : 1023 ≤ b / 4503599627370496 → b / 4503599627370496 < 1075 → digits_of b / 2 ^ (1075 - b / 4503599627370496) ≡ to_unsigned 64 x
  cut lo hi =
      let q = digits_of b in
      let k = 1075 - b / 4503599627370496 in
      let j = b / 4503599627370496 - 1 in
      let p : 0 < b / 4503599627370496 = omega arith in
      let u : b / 4503599627370496 < 2047 = omega arith in
      let s : j + k ≡ 1074 = omega arith in
      let w : q / 2 ^ k ≡ q * 2 ^ j / 2 ^ 1074 = ap (λ (z : ℕ). z / 2 ^ k) (sym (shl-shr q j)) ∙ shr-shr (q * 2 ^ j) j k ∙ ap (λ (i : ℕ). q * 2 ^ j / 2 ^ i) s in
      let l : 2 ^ 53 ≤ 2 ^ 64 - 1 = lit≤ tt in
      sym (by_value x (q * 2 ^ j) (2 ^ 1074) (pow_pos 1074) (value_normal x F b is p u) ∙ ap (λ (z : ℕ). min z (2 ^ 64 - 1)) (sym w) ∙ inside (q / 2 ^ k) (2 ^ 64 - 1) (le_trans (shr_le q k) (le_trans (le_of_lt (digits_lt b)) l)))

  -- ---- from 1075 to 1086: none does, and the whole number fits
  pub shift : 1075 ≤ b / 4503599627370496 → b / 4503599627370496 ≤ 1086 → digits_of b * 2 ^ (b / 4503599627370496 - 1075) % 18446744073709551616 ≡ to_unsigned 64 x
  shift lo hi =
      let q = digits_of b in
      let k = b / 4503599627370496 - 1075 in
      let j = b / 4503599627370496 - 1 in
      let p : 0 < b / 4503599627370496 = omega arith in
      let u : b / 4503599627370496 < 2047 = omega arith in
      let s : j ≡ k + 1074 = omega arith in
      let f : 53 + k ≤ 64 = omega arith in
      let w : q * 2 ^ j / 2 ^ 1074 ≡ q * 2 ^ k = ap (λ (i : ℕ). q * 2 ^ i / 2 ^ 1074) s ∙ ap (λ (z : ℕ). z / 2 ^ 1074) (ap (λ (z : ℕ). q * z) (pow-add 2 k 1074) ∙ sym (mul_assoc q (2 ^ k) (2 ^ 1074))) ∙ shl-shr (q * 2 ^ k) 1074 in
      shl_exact 53 k 64 (digits_lt b) f
      ∙ sym (by_value x (q * 2 ^ j) (2 ^ 1074) (pow_pos 1074) (value_normal x F b is p u) ∙ ap (λ (z : ℕ). min z (2 ^ 64 - 1)) w ∙ inside (q * 2 ^ k) (2 ^ 64 - 1) (le_ones 64 (lt_of_lt_of_le (shl_lt 53 k (digits_lt b)) (pow_mono f))))
