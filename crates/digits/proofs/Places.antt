-- The digits that `io` writes are a double's text and a number's: the fewest digits that hold a number are one count
-- alone. Assumes nothing.
use Prim.Native.Nat.{ℕ, zero, suc, ◌+◌, ◌-◌, ◌^◌, ◌<◌, ◌≤◌}
use native.Mathlib.Nat.{pow-suc, pow-le-pow_right}
use native.Mathlib.Decide.{dec_lt}
use native.Mathlib.Omega.{arith}
use mathlib.Core.Path.{◌≡◌, refl, ◌∙◌, ap}
use mathlib.Core.List.{List, [], ◌∷◌}
use lib.Dec.{lit<}
use lib.Ieee.{Float, binary64, to_bits}
use borrow.Author.Tests.{lt-ltb, le-ltb}
use Rattle.io.specs.Digits.{last_digits, IsDigitCount}
use Rattle.digits.specs.Digits.{places_from, number_text, hex_text, float_text}

-- 9 has one digit, and 10 has two
pub worked : (number_text 9 ≡ 0x39 ∷ []) × (number_text 10 ≡ 0x31 ∷ 0x30 ∷ [])
unfolding number_text places_from
worked = (refl, refl)

-- ten to the k is above k, and grows with it
above : (k : ℕ) → k < 10 ^ k
above zero = lit< tt
above (suc k) = rw (pow-suc 10 k) (omega (arith, above k))

pub tens : {i j : ℕ} → i ≤ j → 10 ^ i ≤ 10 ^ j
tens h = pow-le-pow_right (lit< tt) h

-- the search from j on finds k, if it goes that far
from :
    (left j n k : ℕ) → j ≤ k → k ≤ j + left → n < 10 ^ k → (j < k → 10 ^ (k - 1) ≤ n)
    → k ≡ places_from left j n
unfolding places_from
from zero j n k l h u w = omega arith
from (suc left) j n k l h u w = step (dec_lt n (10 ^ j)) (dec_lt j k) (λ b. from left (suc j) n k b (omega arith) u (λ _. w b))
  where
    step : Dec (n < 10 ^ j) → Dec (j < k) → (j < k → k ≡ places_from left (suc j) n) → k ≡ places_from (suc left) j n
    step (yes a) (yes b) on = absurd (omega (arith, w b, tens {i = j} {j = k - 1} (omega arith)))
    step (yes a) (no b) on = rw (lt-ltb n (10 ^ j) a) (omega arith)
    step (no a) (yes b) on = rw (le-ltb n (10 ^ j) (omega arith)) (on b)
    step (no a) (no b) on = absurd (omega (arith, tens {i = k} {j = j} (omega arith)))

-- the count of a number's digits is the one that `IsDigitCount` allows
pub places_fixed : (n k : ℕ) → IsDigitCount 10 1 n k → k ≡ places_from n 1 n
places_fixed n k f = from n 1 n k f.0 (bound (dec_lt 1 k)) f.1 f.2
  where
    bound : Dec (1 < k) → k ≤ 1 + n
    bound (yes h) = omega (arith, f.2 h, above (k - 1))
    bound (no h) = omega arith

-- and it is such a count: the search from j on ends at one, if it goes that far
fewest_from : (left j n m : ℕ) → 1 ≤ j → m ≤ j + left → n < 10 ^ m → (1 < j → 10 ^ (j - 1) ≤ n) → IsDigitCount 10 1 n (places_from left j n)
unfolding places_from
fewest_from zero j n m l h u w = (l, omega (arith, tens {i = m} {j = j} (omega arith)), w)
fewest_from (suc left) j n m l h u w = step (dec_lt n (10 ^ j)) (λ b. fewest_from left (suc j) n m (omega arith) (omega arith) u (λ _. omega (arith, b, tens {i = suc j - 1} {j = j} (omega arith))))
  where
    step : Dec (n < 10 ^ j) → (10 ^ j ≤ n → IsDigitCount 10 1 n (places_from left (suc j) n)) → IsDigitCount 10 1 n (places_from (suc left) j n)
    step (yes a) on = rw (lt-ltb n (10 ^ j) a) (l, a, w)
    step (no a) on = rw (le-ltb n (10 ^ j) (omega arith)) (on (omega arith))

pub fewest : (n : ℕ) → IsDigitCount 10 1 n (places_from n 1 n)
fewest n = fewest_from n 1 n n (omega arith) (omega arith) (above n) (λ h. absurd (omega arith))

pub number_is : (n k : ℕ) {bs : List ℕ} → IsDigitCount 10 1 n k → bs ≡ last_digits 10 k n → bs ≡ number_text n
unfolding number_text
number_is n k f e = e ∙ ap (λ (i : ℕ). last_digits 10 i n) (places_fixed n k f)

-- sixteen digits hold 64 bits
sixteen : (n k : ℕ) → n < 2 ^ 64 → IsDigitCount 16 16 n k → k ≡ 16
sixteen n k h f = by (dec_lt 16 k)
  where
    by : Dec (16 < k) → k ≡ 16
    by (yes l) = absurd (omega (arith, f.2 l, pow-le-pow_right {n = 16} (lit< tt) {i = 16} {j = k - 1} (omega arith)))
    by (no l) = omega (arith, f.0)

pub float_is : (x : Float) (n k : ℕ) {bs : List ℕ} → n ≡ to_bits binary64 x → n < 2 ^ 64 → IsDigitCount 16 16 n k → bs ≡ last_digits 16 k n → bs ≡ float_text x
unfolding hex_text
float_is x n k b h f e = e ∙ ap (λ (i : ℕ). last_digits 16 i n) (sixteen n k h f) ∙ ap (last_digits 16 16) b
