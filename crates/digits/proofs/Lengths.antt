-- How long a number's text is: no longer than any count of digits that holds the number, and 16 digits for the bits of
-- a double. Assumes nothing.
use Prim.Native.Nat.{ℕ, zero, suc, ◌-◌, ◌/◌, ◌%◌, ◌^◌, ◌<◌, ◌≤◌}
use native.Mathlib.Decide.{dec_lt}
use native.Mathlib.Omega.{arith}
use mathlib.Core.Path.{◌≡◌, refl, sym, ◌∙◌}
use mathlib.Core.Bool.{Bool, true, false}
use mathlib.Core.List.{[], ◌∷◌}
use lib.ListN.{length, length-append}
use Rattle.io.specs.Digits.{hex_digit_ascii, last_digits, IsDigitCount}
use Rattle.digits.specs.Digits.{places_from, number_text, hex_text, flag_text}
use Rattle.digits.proofs.Places.{tens, places_fixed, fewest}

pub digits_length : (b k n : ℕ) → length (last_digits b k n) ≡ k
digits_length b zero n = refl
digits_length b (suc k) n = omega (arith, length-append (last_digits b k (n / b)) (hex_digit_ascii (n % b) ∷ []), digits_length b k (n / b))

-- the fewest digits that hold the number are as many as its text has
pub number_exact : (n k : ℕ) → IsDigitCount 10 1 n k → length (number_text n) ≡ k
unfolding number_text
number_exact n k f = digits_length 10 (places_from n 1 n) n ∙ sym (places_fixed n k f)

pub number_length : (n k : ℕ) → 1 ≤ k → n < 10 ^ k → length (number_text n) ≤ k
number_length n k l h = by (places_from n 1 n) (fewest n)
  where
    by : (p : ℕ) → IsDigitCount 10 1 n p → length (number_text n) ≤ k
    by p f = rw (number_exact n p f) (no_more (dec_lt k p))
      where
        no_more : Dec (k < p) → p ≤ k
        no_more (yes a) = absurd (omega (arith, f.2 (omega arith), tens {i = k} {j = p - 1} (omega arith)))
        no_more (no a) = omega arith

pub hex_length : (n : ℕ) → length (hex_text n) ≡ 16
unfolding hex_text
hex_length n = digits_length 16 16 n

pub flag_length : (b : Bool) → length (flag_text b) ≡ 1
flag_length true = refl
flag_length false = refl
