-- Numbers as digits, as a report has them: 01, "Worked rows". `digits` of the kit's `io` is the last k digits of a
-- number in a base, the most significant first. Assumes nothing.
use Rattle.std.specs.Prelude.{ℕ, zero, suc, ◌^◌, Bool, true, false, cond, List, [], ◌∷◌, ltb, Float}
use Rattle.std.specs.Float.{binary64}
use Rattle.std.specs.Float.Ieee.{to_bits}
use Rattle.io.specs.Digits.{last_digits}

-- the least number of digits, k or more, that holds n: the first power of ten that is above n tells it. `left` ends the
-- search, and a number has never more digits than itself and 1
unfoldable pub places_from : ℕ → ℕ → ℕ → ℕ
places_from zero k n = k
places_from (suc left) k n = cond (ltb n (10 ^ k)) k (places_from left (suc k) n)

-- a number in decimal, no zero in front: one digit, and as many more as n needs: RULES, report-text
unfoldable pub number_text : ℕ → List ℕ
number_text n = last_digits 10 (places_from n 1 n) n

-- 64 bits as 16 digits
unfoldable pub hex_text : ℕ → List ℕ
hex_text n = last_digits 16 16 n

-- a double, by its bits: RULES, report-text
abbrev pub float_text : Float → List ℕ
float_text x = hex_text (to_bits binary64 x)

-- 0 or 1
abbrev pub flag_text : Bool → List ℕ
flag_text true = 0x31 ∷ []
flag_text false = 0x30 ∷ []
