-- Reading the digits back gives the number: a number's text names one number only. These laws stand for a reader of
-- reports and answers; the law that a written recording is read back cites them. Assumes nothing.
use Prim.Native.Nat.{ℕ, zero, suc, ◌+◌, ◌-◌, ◌*◌, ◌/◌, ◌%◌, ◌^◌, ◌<◌, ◌≤◌}
use native.Mathlib.Nat.{pow-zero, pow-suc, mod-lt, mod-eq_of_lt, div-add-mod', div-le_self, div-lt_iff_lt-mul, le-div_iff_mul-le}
use native.Mathlib.Decide.{dec_lt}
use native.Mathlib.Omega.{arith}
use mathlib.Core.Path.{◌≡◌, sym, ap, ◌∙◌}
use mathlib.Core.List.{List, [], ◌∷◌, ◌++◌, append-nil, append_assoc}
use lib.Dec.{lit<}
use lib.ListN.{get_or, get_or-append}
use borrow.Author.Tests.{lt-ltb, le-ltb, le-leb}
use Rattle.io.specs.Digits.{hex_digit_ascii, last_digits, IsDigitCount}
use Rattle.text.specs.Numbers.{digit_of, number_from, hex16_of, decimal_of}
use Rattle.std.specs.Prelude.{Some}
use Rattle.text.proofs.Digits.{decimal, letter, right_length, single, no_zero_first}
use Rattle.digits.specs.Digits.{places_from, number_text, hex_text}
use Rattle.digits.proofs.Places.{tens, fewest}
use Rattle.digits.proofs.Lengths.{digits_length, hex_length}

-- a digit's byte stands for the digit
low_glyph : (d : ℕ) → d < 10 → hex_digit_ascii d ≡ 48 + d
low_glyph d h = rw (lt-ltb d 10 h)

digit_back : (d : ℕ) → d < 16 → digit_of (hex_digit_ascii d) ≡ d
digit_back d h = by (dec_lt d 10)
  where
    by : Dec (d < 10) → digit_of (hex_digit_ascii d) ≡ d
    by (yes a) = rw (low_glyph d a) (sym (decimal (48 + d) (omega arith) (omega arith)) ∙ omega arith)
    by (no a) = rw (le-ltb d 10 (omega arith)) (sym (letter (87 + d) (omega arith) (omega arith)) ∙ omega arith)

-- the digits are read, and what stands behind them is left
module _ (b : ℕ) (two : 1 < b) (sixteen : b ≤ 16) where
  one_back : (v d : ℕ) (rest : List ℕ) → d < b → v * b + d < 2 ^ 64 → number_from b v (hex_digit_ascii d ∷ rest) ≡ number_from b (v * b + d) rest
  unfolding number_from
  one_back v d rest h u = rw (digit_back d (omega arith), lt-ltb d b h, le-leb (v * b + d) (2 ^ 64 - 1) (omega arith))

  pub digits_back : (k n : ℕ) (rest : List ℕ) → n < b ^ k → n < 2 ^ 64 → number_from b 0 (last_digits b k n ++ rest) ≡ number_from b n rest
  digits_back zero n rest h u = ap (λ (v : ℕ). number_from b v rest) (omega (arith, pow-zero b))
  digits_back (suc k) n rest h u =
      let q = n / b in
      let r = n % b in
      let whole : q * b + r ≡ n = div-add-mod' n b in
      rw (append_assoc (last_digits b k q) (hex_digit_ascii r ∷ []) rest)
      (digits_back k q (hex_digit_ascii r ∷ rest) ((div-lt_iff_lt-mul (omega arith)).1 (rw (← pow-suc b k) h)) (omega (arith, div-le_self n b))
      ∙ one_back q r rest (mod-lt n (omega arith)) (rw whole u)
      ∙ ap (λ (v : ℕ). number_from b v rest) whole)

-- ---- sixteen digits

pub hex_back : (n : ℕ) → n < 2 ^ 64 → hex16_of (hex_text n) ≡ Some n
unfolding hex_text number_from
hex_back n h =
    sym (right_length (hex_text n) (hex_length n))
    ∙ ap (number_from 16 0) (sym (append-nil (hex_text n)))
    ∙ digits_back 16 (lit< tt) (omega arith) 16 n [] h h

-- ---- decimal digits, with no zero in front

-- the first of the fewest digits is no zero
first : (k n : ℕ) → 10 ^ k ≤ n → n < 10 ^ suc k → get_or (last_digits 10 (suc k) n) 0 0 ≡ 48 → ⊥
first zero n l u e = omega (arith, e, low_glyph (n % 10) (mod-lt n (lit< tt)), mod-eq_of_lt {n = n} {m = 10} u)
first (suc k) n l u e =
    first k (n / 10) ((le-div_iff_mul-le {k = 10} (lit< tt)).1 (rw (← pow-suc 10 k) l)) ((div-lt_iff_lt-mul {k = 10} (lit< tt)).1 (rw (← pow-suc 10 (suc k)) u))
    (sym (get_or-append (last_digits 10 (suc k) (n / 10)) (hex_digit_ascii (n % 10) ∷ []) 0 0 (omega (arith, digits_length 10 (suc k) (n / 10)))) ∙ e)

pub decimal_back : (n : ℕ) → n < 2 ^ 64 → decimal_of (number_text n) ≡ Some n
unfolding number_text number_from
decimal_back n h = by (places_from n 1 n) (fewest n)
  where
    by : (k : ℕ) → IsDigitCount 10 1 n k → decimal_of (last_digits 10 k n) ≡ Some n
    by k f = sym (front k f) ∙ ap (number_from 10 0) (sym (append-nil (last_digits 10 k n))) ∙ digits_back 10 (lit< tt) (omega arith) k n [] f.1 h
      where
        front : (k : ℕ) → IsDigitCount 10 1 n k → number_from 10 0 (last_digits 10 k n) ≡ decimal_of (last_digits 10 k n)
        front zero f = absurd (omega arith)
        front (suc zero) f = single (last_digits 10 1 n) (digits_length 10 1 n)
        front (suc (suc k)) f =
            let l = digits_length 10 (suc (suc k)) n in
            no_zero_first (last_digits 10 (suc (suc k)) n) (λ e. omega arith) (λ e. omega arith) (first (suc k) n (omega (arith, f.2 (omega arith), tens {i = suc k} {j = suc (suc k) - 1} (omega arith))) f.1)

-- ---- so two numbers with the same text are one

pub number_apart : (m n : ℕ) → m < 2 ^ 64 → n < 2 ^ 64 → number_text m ≡ number_text n → m ≡ n
number_apart m n a b e = cc (decimal_back m a, decimal_back n b)

pub hex_apart : (m n : ℕ) → m < 2 ^ 64 → n < 2 ^ 64 → hex_text m ≡ hex_text n → m ≡ n
hex_apart m n a b e = cc (hex_back m a, hex_back n b)
