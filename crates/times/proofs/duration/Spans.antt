-- What `nanos` answers: by the double's size in units of 2 ^ -1074, and then by its bits. RULES, dt-to-nanoseconds.
-- Assumes nothing.
use mathlib.Core.Path.{◌≡◌, refl, sym, ap, ◌∙◌, subst}
use Prim.Native.Nat.{ℕ, ◌+◌, ◌-◌, ◌*◌, ◌/◌, ◌%◌, ◌^◌, ◌≤◌, ◌<◌, min, compare}
use native.Mathlib.Nat.{le_trans, le_of_eq, lt_of_le_of_lt, zero-mul, add_comm, mul_comm, mul_assoc, mul_right_comm, mul-pos, mul-le-mul_right, mul-le-mul_left, le-div_iff_mul-le, zero-lt-suc}
use native.Mathlib.Omega.{arith}
use mathlib.Core.Bool.{true, false, true≢false, false≢true}
use lib.IntN.{pos}
use lib.Dec.{T, ltb, lit≤}
use lib.Pow.{pow_pos, pow-add, pow_mono, shl_lt, shl-shr, shr-shr, split, mod-mod-pow, le_ones}
use lib.Ieee.{Float, nan, inf, fin, binary64, up, down, fits, lt, of_bits, to_bits}
use lib.Ieee.Fits.{down_pos}
use lib.Ieee.Exact.{HasValue}
use lib.Ieee.Nearest.{closest, closest_same, nearest-ge}
use borrow.Author.Tests.{ltb-false}
use Rattle.times.specs.Durations.{nanos_of}
use Rattle.doubles.proofs.Read.{digits_of, amount, amount_lt, value_clear, value_normal, clear}
use Rattle.times.proofs.duration.Halves.{closest_zero, closest_plus, nearest_of}

-- ---- a double of the size n / l with no minus sign

by_value : (x : Float) (n l : ℕ) → 0 < l → HasValue x false n l → nanos_of x ≡ min (closest (n * 1000000000) l) (2 ^ 64 - 1)
unfolding nanos_of
by_value nan n l L v = absurd v
by_value (inf t) n l L v = absurd v
by_value (fin true m e) n l L v = absurd (true≢false v.0)
by_value (fin false m e) n l L v =
    ap (λ (z : ℕ). min z (2 ^ 64 - 1))
    (closest_same (m * up e * 1000000000) (down e) (n * 1000000000) l (down_pos e) L
    (mul_right_comm (m * up e) 1000000000 l ∙ ap (λ (z : ℕ). z * 1000000000) v.1 ∙ mul_right_comm n (down e) 1000000000))

inside : (a c : ℕ) → a ≤ c → min a c ≡ a
inside a c h = omega arith

capped : (a c : ℕ) → c ≤ a → min a c ≡ c
capped a c h = omega arith

-- ---- the test against 0.0

zero_is : of_bits binary64 0 ≡ fin false 0 (pos 0)
unfolding of_bits
zero_is = refl

none : (m u d : ℕ) → 0 < d → ltb (0 * 1 * d) (m * u * 1) ≡ false → closest (m * u * 1000000000) d ≡ 0
none m u d P h = closest_zero (m * u * 1000000000) d (gone (m * u) (0 * 1 * d) d P (zero-mul d) (ltb-false (0 * 1 * d) (m * u * 1) h))
  where
    gone : (a z d : ℕ) → 0 < d → z ≡ 0 → a * 1 ≤ z → a * 1000000000 * 2 < d
    gone a z d P e h = omega arith

pub not_above : (x : Float) → lt (of_bits binary64 0) x ≡ false → nanos_of x ≡ 0
unfolding nanos_of lt
not_above nan h = refl
not_above (inf true) h = refl
not_above (inf false) h = absurd (true≢false (ap (λ (y : Float). lt y (inf false)) (sym zero_is) ∙ h))
not_above (fin true m e) h = refl
not_above (fin false m e) h =
    ap (λ (z : ℕ). min z (2 ^ 64 - 1)) (none m (up e) (down e) (down_pos e) (ap (λ (y : Float). lt y (fin false m e)) (sym zero_is) ∙ h))
    ∙ inside 0 (2 ^ 64 - 1) (lit≤ tt)

-- ---- a field over 1057: 2 ^ 35 seconds and more

many : (q j : ℕ) → 2 ^ 52 ≤ q → 1057 ≤ j → 2 ^ 64 * 2 ^ 1074 ≤ q * 2 ^ j * 1000000000
many q j Q h =
    let l : 2 ^ 64 * 2 ^ 1074 ≤ 2 ^ 52 * 2 ^ 1057 * 1000000000 = lit≤ tt in
    le_trans l (mul-le-mul_right 1000000000 (le_trans (mul-le-mul_right (2 ^ 1057) Q) (mul-le-mul_left q (pow_mono h))))

pub huge : (x : Float) → T (fits binary64 x) → (b : ℕ) → b ≡ to_bits binary64 x → 1057 < b / 4503599627370496 → lt (of_bits binary64 0) x ≡ true → nanos_of x ≡ 18446744073709551615
unfolding nanos_of lt
huge nan F b is g h = absurd (false≢true (ap (λ (y : Float). lt y nan) (sym zero_is) ∙ h))
huge (inf true) F b is g h = absurd (false≢true (ap (λ (y : Float). lt y (inf true)) (sym zero_is) ∙ h))
huge (inf false) F b is g h = refl
huge (fin true m e) F b is g h = absurd (false≢true (ap (λ (y : Float). lt y (fin true m e)) (sym zero_is) ∙ h))
huge (fin false m e) F b is g h =
    let x = fin false m e in
    let j = b / 4503599627370496 - 1 in
    let n = digits_of b * 2 ^ j in
    let p : 0 < b / 4503599627370496 = omega arith in
    let q : 2 ^ 52 ≤ digits_of b = omega arith in
    let J : 1057 ≤ j = omega arith in
    let l : 2 ^ 64 - 1 ≤ 2 ^ 64 = lit≤ tt in
    by_value x n (2 ^ 1074) (pow_pos 1074) (value_normal x F b is p (clear x F b is refl refl))
    ∙ capped (closest (n * 1000000000) (2 ^ 1074)) (2 ^ 64 - 1) (le_trans l (le_trans ((le-div_iff_mul-le (pow_pos 1074)).1 (many (digits_of b) j q J)) (nearest-ge (n * 1000000000 / 2 ^ 1074) (compare (n * 1000000000 % 2 ^ 1074 * 2) (2 ^ 1074)))))

-- ---- a field below 992: less than half a nanosecond

half_less : (n : ℕ) → n < 2 ^ 1043 → n * 1000000000 * 2 < 2 ^ 1074
half_less n h = lt_of_le_of_lt (le_trans (le_of_eq (mul_assoc n 1000000000 2)) (mul-le-mul_left n (lit≤ tt))) (shl_lt 1043 31 h)

-- ---- q * 2 ^ (e - 1) * 10 ^ 9 / 2 ^ 1074 is q * 5 ^ 9 / 2 ^ (1066 - e)

scale : (q j k : ℕ) → j + k + 41 ≡ 1074 → q * 2 ^ j * 1000000000 * (2 ^ k * 4294967296) ≡ q * 1953125 * 2 ^ 1074
scale q j k h =
    let r : 2 ^ j * 2 ^ k * 2199023255552 ≡ 2 ^ 1074 = ap (λ (z : ℕ). z * 2 ^ 41) (sym (pow-add 2 j k)) ∙ sym (pow-add 2 (j + k) 41) ∙ ap (λ (z : ℕ). 2 ^ z) h in
    ap (λ (z : ℕ). z * (2 ^ k * 4294967296)) (mul_right_comm q (2 ^ j) 1000000000)
    ∙ regroup q (2 ^ j) (2 ^ k)
    ∙ ap (λ (z : ℕ). q * 1953125 * z) r
  where
    regroup : (q a c : ℕ) → q * 1000000000 * a * (c * 4294967296) ≡ q * 1953125 * (a * c * 2199023255552)
    regroup q a c =
        mul_assoc (q * 1000000000) a (c * 4294967296)
        ∙ ap (λ (z : ℕ). q * 1000000000 * z) (sym (mul_assoc a c 4294967296))
        ∙ ap (λ (z : ℕ). z * (a * c * 4294967296)) (sym (mul_assoc q 1953125 512))
        ∙ mul_assoc (q * 1953125) 512 (a * c * 4294967296)
        ∙ ap (λ (z : ℕ). q * 1953125 * z) (mul_comm 512 (a * c * 4294967296) ∙ mul_assoc (a * c) 4294967296 512)

-- ---- N of 2 ^ -52 seconds: the full seconds, and what is left of one

full : (N : ℕ) → closest (N * 1000000000) (2 ^ 52) ≡ nearest_of (N % 2 ^ 52) 11 + N / 2 ^ 52 * 1000000000
full N =
    let w = N / 2 ^ 52 in
    let r = N % 2 ^ 52 in
    ap (λ (z : ℕ). closest z (2 ^ 52)) (ap (λ (z : ℕ). z * 1000000000) (sym (split N 52)) ∙ apart w r)
    ∙ closest_plus (r * 1000000000) (w * 500000000) (2 ^ 52) (pow_pos 52)
    ∙ ap (λ (z : ℕ). z + w * 500000000 * 2) (closest_same (r * 1000000000) (2 ^ 52) (r * 1953125) (2 ^ 11 * 4294967296) (pow_pos 52) (pow_pos 43) (less r))
    ∙ ap (λ (z : ℕ). nearest_of r 11 + z) (twice w)
  where
    apart : (w r : ℕ) → (w * 2 ^ 52 + r) * 1000000000 ≡ r * 1000000000 + w * 500000000 * 2 * 2 ^ 52
    apart w r = omega arith

    less : (r : ℕ) → r * 1000000000 * (2 ^ 11 * 4294967296) ≡ r * 1953125 * 2 ^ 52
    less r = omega arith

    twice : (w : ℕ) → w * 500000000 * 2 ≡ w * 1000000000
    twice w = omega arith

-- the code's numbers
abbrev pub full_of : ℕ → ℕ
full_of b = digits_of b / 2 ^ (1075 - b / 4503599627370496)

abbrev pub part_of : ℕ → ℕ
part_of b = digits_of b * 2 ^ (b / 4503599627370496 - 1023) % 18446744073709551616 % 4503599627370496

fewer : (q c : ℕ) → q * 2 ^ (c + 1022) * 1000000000 * 2 ^ 52 ≡ q * 2 ^ c * 1000000000 * 2 ^ 1074
fewer q c =
    let N = q * 2 ^ c in
    ap (λ (z : ℕ). z * 1000000000 * 2 ^ 52) (ap (λ (z : ℕ). q * z) (pow-add 2 c 1022) ∙ sym (mul_assoc q (2 ^ c) (2 ^ 1022)))
    ∙ ap (λ (z : ℕ). z * 2 ^ 52) (mul_right_comm N (2 ^ 1022) 1000000000)
    ∙ mul_assoc (N * 1000000000) (2 ^ 1022) (2 ^ 52)
    ∙ ap (λ (z : ℕ). N * 1000000000 * z) (sym (pow-add 2 1022 52))

module _ (x : Float) (F : T (fits binary64 x)) (b : ℕ) (is : b ≡ to_bits binary64 x) where
  pub tiny : b / 4503599627370496 < 992 → nanos_of x ≡ 0
  tiny h =
      let n = amount (b / 4503599627370496) (b % 4503599627370496) in
      let t : b % 4503599627370496 < 2 ^ 52 = omega arith in
      let p : 0 < 991 = omega arith in
      let l : b / 4503599627370496 ≤ 991 = omega arith in
      let u : b / 4503599627370496 < 2047 = omega arith in
      by_value x n (2 ^ 1074) (pow_pos 1074) (value_clear x F b is u)
      ∙ ap (λ (z : ℕ). min z (2 ^ 64 - 1)) (closest_zero (n * 1000000000) (2 ^ 1074) (half_less n (amount_lt (b / 4503599627370496) (b % 4503599627370496) 991 t p l)))
      ∙ inside 0 (2 ^ 64 - 1) (lit≤ tt)

  -- ---- below 1.0; r is what `rounded` answers
  pub below : (r : ℕ) → 992 ≤ b / 4503599627370496 → b / 4503599627370496 < 1023 → r < 2 ^ 64 → r ≡ nearest_of (digits_of b) (1034 - b / 4503599627370496) → r ≡ nanos_of x
  below r lo hi R e =
      let q = digits_of b in
      let k = 1034 - b / 4503599627370496 in
      let j = b / 4503599627370496 - 1 in
      let p : 0 < b / 4503599627370496 = omega arith in
      let u : b / 4503599627370496 < 2047 = omega arith in
      let sum : j + k + 41 ≡ 1074 = omega arith in
      sym
      (by_value x (q * 2 ^ j) (2 ^ 1074) (pow_pos 1074) (value_normal x F b is p u)
      ∙ ap (λ (z : ℕ). min z (2 ^ 64 - 1)) (closest_same (q * 2 ^ j * 1000000000) (2 ^ 1074) (q * 1953125) (2 ^ k * 4294967296) (pow_pos 1074) (mul-pos (pow_pos k) (zero-lt-suc 4294967295)) (scale q j k sum) ∙ sym e)
      ∙ inside r (2 ^ 64 - 1) (le_ones 64 R))

  -- ---- from 1.0 on
  above : 1023 ≤ b / 4503599627370496 → b / 4503599627370496 ≤ 1057 → nanos_of x ≡ min (nearest_of (part_of b) 11 + full_of b * 1000000000) (2 ^ 64 - 1)
  above lo hi =
      let q = digits_of b in
      let c = b / 4503599627370496 - 1023 in
      let k = 1075 - b / 4503599627370496 in
      let p : 0 < b / 4503599627370496 = omega arith in
      let u : b / 4503599627370496 < 2047 = omega arith in
      let j : b / 4503599627370496 - 1 ≡ c + 1022 = omega arith in
      let s : c + k ≡ 52 = omega arith in
      let w : q * 2 ^ c / 2 ^ 52 ≡ q / 2 ^ k = sym (ap (λ (z : ℕ). z / 2 ^ k) (sym (shl-shr q c)) ∙ shr-shr (q * 2 ^ c) c k ∙ ap (λ (i : ℕ). q * 2 ^ c / 2 ^ i) s) in
      let v : HasValue x false (q * 2 ^ (c + 1022)) (2 ^ 1074) = subst (λ (i : ℕ). HasValue x false (q * 2 ^ i) (2 ^ 1074)) j (value_normal x F b is p u) in
      by_value x (q * 2 ^ (c + 1022)) (2 ^ 1074) (pow_pos 1074) v
      ∙ ap (λ (z : ℕ). min z (2 ^ 64 - 1))
      (closest_same (q * 2 ^ (c + 1022) * 1000000000) (2 ^ 1074) (q * 2 ^ c * 1000000000) (2 ^ 52) (pow_pos 1074) (pow_pos 52) (fewer q c)
      ∙ full (q * 2 ^ c)
      ∙ ap (λ (z : ℕ). nearest_of z 11 + q * 2 ^ c / 2 ^ 52 * 1000000000) (sym (mod-mod-pow (q * 2 ^ c) 12 52))
      ∙ ap (λ (z : ℕ). nearest_of (part_of b) 11 + z * 1000000000) w)

  -- the seconds alone are too many, or they and the rest are counted; t is what `rounded` answers
  module _ (lo : 1023 ≤ b / 4503599627370496) (hi : b / 4503599627370496 ≤ 1057) where
    pub too_long : 18446744073 < full_of b → 18446744073709551615 ≡ nanos_of x
    too_long h = sym (above lo hi ∙ capped (nearest_of (part_of b) 11 + full_of b * 1000000000) (2 ^ 64 - 1) (omega arith))

    with_part : (t : ℕ) → t ≡ nearest_of (part_of b) 11 → nanos_of x ≡ min (t + full_of b * 1000000000) (2 ^ 64 - 1)
    with_part t e = above lo hi ∙ ap (λ (z : ℕ). min (z + full_of b * 1000000000) (2 ^ 64 - 1)) (sym e)

    pub in_all : (t : ℕ) → t ≡ nearest_of (part_of b) 11 → min (full_of b * 1000000000 + t) (2 ^ 64 - 1) ≡ nanos_of x
    in_all t e = ap (λ (z : ℕ). min z (2 ^ 64 - 1)) (add_comm (full_of b * 1000000000) t) ∙ sym (with_part t e)
