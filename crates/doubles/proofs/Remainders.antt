-- The remainder of two doubles, by the sizes that they have and by their bits. Assumes nothing.
use Prim.Native.Nat.{ℕ, zero, suc, ◌+◌, ◌-◌, ◌*◌, ◌/◌, ◌%◌, ◌^◌, ◌≤◌, ◌<◌}
use native.Mathlib.Nat.{mul_assoc, mul_comm, mul_right_comm, mul-pos, mul-div_cancel, mul-mod_left, mul-one, eq-zero-or-pos, mul-lt-mul_of_pos_right, mul-le-mul_right, lt_of_lt_of_le, le_trans, le_of_eq, zero-mul, mod-lt, mod-eq_of_lt}
use native.Mathlib.Omega.{arith}
use mathlib.Core.Path.{◌≡◌, refl, sym, ap, ◌∙◌, subst}
use mathlib.Core.Logic.{◌⊎◌, inl, inr}
use mathlib.Core.Bool.{Bool, true, false, cond, false≢true}
use lib.Dec.{T, leb, ltb, eqb}
use lib.IntN.{ℤ, pos}
use lib.Pow.{pow_pos, pow_mono, pow-lt, pow-add}
use lib.Ieee.{Float, nan, inf, fin, binary64, up, down, round, mul, div, rem, of_int, of_bits, to_bits, unlike, ne, fits}
use lib.Ieee.Exact.{HasValue}
use lib.Ieee.Fits.{down_pos}
use lib.Ieee.Back.{round_whole}
use lib.Ieee.Scale.{round_same}
use borrow.Author.Tests.{ne_eqb, eq-eqb, ltb-true, ltb-false}
use Rattle.std.proofs.Math.Arith.{mod-mul}
use Rattle.std.proofs.lemmas.Nat.{mul-mod_first}
use Rattle.doubles.specs.Doubles.{finite_of}
use Rattle.doubles.specs.Remainders.{digits_in, place_in, power_bits}
use Rattle.doubles.proofs.Fields.{field, field_mask, finite_is, digits, place, top_bit, value}

-- ---- by sizes

-- a factor of both goes through
scaled_mod : (a b k : ℕ) → 0 < b → 0 < k → a * k % (b * k) ≡ a % b * k
scaled_mod a b k B K = mod-mul (a * k) B K ∙ rw (mul-div_cancel a K, mul-mod_left a k) (omega arith)

-- a product of four, in another order
across : (m d c a e : ℕ) → m * c ≡ a * e → m * d * c ≡ a * (e * d)
across m d c a e h = mul_right_comm m d c ∙ ap (λ (z : ℕ). z * d) h ∙ mul_assoc a e d

pub rem_value : (x y : Float) (s t : Bool) (a b c : ℕ) → 0 < c → HasValue x s a c → HasValue y t b c → 0 < b → rem binary64 x y ≡ round binary64 s (a % b) c
unfolding rem
rem_value nan y s t a b c C v w h = absurd v
rem_value (inf u) y s t a b c C v w h = absurd v
rem_value (fin u m e) nan s t a b c C v w h = absurd w
rem_value (fin u m e) (inf z) s t a b c C v w h = absurd w
rem_value (fin u m e) (fin z n d) s t a b c C v w h =
    let A = m * up e * down d in
    let B = n * up d * down e in
    let D = down e * down d in
    let P : 0 < D = mul-pos (down_pos e) (down_pos d) in
    let first : A * c ≡ a * D = across (m * up e) (down d) c a (down e) v.1 in
    let second : B * c ≡ b * D = across (n * up d) (down e) c b (down d) w.1 ∙ ap (λ (i : ℕ). b * i) (mul_comm (down d) (down e)) in
    let Q : 0 < B = some B c (subst (λ (i : ℕ). 0 < i) (sym second) (mul-pos h P)) in
    rw (v.0, ne_eqb n 0 (λ (i : n ≡ 0). none (down e) (up d) n i Q))
    (round_same binary64 s (A % B) D (a % b) c P C
    (sym (scaled_mod A B c Q C) ∙ ap (λ (i : ℕ). i % (B * c)) first ∙ ap (λ (i : ℕ). a * D % i) second ∙ scaled_mod a b D h P))
  where
    some : (i j : ℕ) → 0 < i * j → 0 < i
    some zero j l = omega (arith, l)
    some (suc i) j l = omega arith

    none : (k j n : ℕ) → n ≡ 0 → 0 < n * j * k → ⊥
    none k j n i l = omega (arith, subst (λ (z : ℕ). 0 < z * j * k) i l)

pub rem_zero : (x y : Float) (s t : Bool) (a c : ℕ) → 0 < c → HasValue x s a c → HasValue y t 0 c → rem binary64 x y ≡ nan
unfolding rem
rem_zero nan y s t a c C v w = absurd v
rem_zero (inf u) y s t a c C v w = absurd v
rem_zero (fin u m e) nan s t a c C v w = absurd w
rem_zero (fin u m e) (inf z) s t a c C v w = absurd w
rem_zero (fin u m e) (fin z n d) s t a c C v w = rw (eq-eqb n 0 (go (eq-zero-or-pos n)))
  where
    up_pos : (d : ℤ) → 0 < up d
    up_pos (pos k) = pow_pos k
    up_pos d = omega arith

    go : (n ≡ 0) ⊎ (0 < n) → n ≡ 0
    go (inl i) = i
    go (inr i) = let l : 0 < n * up d * c = mul-pos (mul-pos i (up_pos d)) C in omega (arith, w.1)

pub rem_first : (x y : Float) → finite_of x ≡ false → rem binary64 x y ≡ nan
unfolding rem
rem_first nan y h = refl
rem_first (inf s) y h = refl
rem_first (fin s m e) y h = absurd (false≢true (sym h))

pub rem_second : (x y : Float) → finite_of x ≡ true → y ≡ nan → rem binary64 x y ≡ nan
unfolding rem
rem_second nan y h e = absurd (false≢true h)
rem_second (inf s) y h e = absurd (false≢true h)
rem_second (fin s m e) y h i = ap (rem binary64 (fin s m e)) i

pub rem_whole : (x y : Float) → finite_of x ≡ true → ne y y ≡ false → finite_of y ≡ false → x ≡ rem binary64 x y
unfolding rem ne
rem_whole nan y h n f = absurd (false≢true h)
rem_whole (inf s) y h n f = absurd (false≢true h)
rem_whole (fin s m e) nan h n f = absurd (false≢true (sym n))
rem_whole (fin s m e) (inf t) h n f = refl
rem_whole (fin s m e) (fin t k d) h n f = absurd (false≢true (sym f))

-- a whole number up to 2 ^ 53 times a double
times : (x w : Float) (s : Bool) (r a c : ℕ) → 0 < c → HasValue x false r 1 → HasValue w s a c → mul binary64 x w ≡ round binary64 s (r * a) c
unfolding mul
times nan w s r a c C v h = absurd v
times (inf u) w s r a c C v h = absurd v
times (fin u m e) nan s r a c C v h = absurd h
times (fin u m e) (inf z) s r a c C v h = absurd h
times (fin u m e) (fin z n d) s r a c C v h =
    let M = m * up e in
    let N = n * up d in
    rw (v.0, h.0, plain s)
    (round_same binary64 s (M * N) (down e * down d) (r * a) c (mul-pos (down_pos e) (down_pos d)) C
    (mul_assoc M N c ∙ ap (λ (i : ℕ). M * i) h.1 ∙ ap (λ (i : ℕ). i * (a * down d)) (sym (mul-one M) ∙ v.1) ∙ four r (down e) a (down d)))
  where
    plain : (s : Bool) → unlike false s ≡ s
    plain true = refl
    plain false = refl

    four : (r e a d : ℕ) → r * e * (a * d) ≡ r * a * (e * d)
    four r e a d = sym (mul_assoc (r * e) a d) ∙ ap (λ (i : ℕ). i * d) (mul_right_comm r e a) ∙ mul_assoc (r * a) e d

pub product : (w : Float) (s : Bool) (r a c : ℕ) → r ≤ 2 ^ 53 → 0 < c → HasValue w s a c → mul binary64 (of_int binary64 (pos r)) w ≡ round binary64 s (r * a) c
unfolding of_int
product w s r a c l C h = times (round binary64 false r 1) w s r a c C (round_whole binary64 false r l) h

-- ---- by bits

digits_is : (b : ℕ) → digits_in b ≡ digits (field b) (b % 2 ^ 52)
digits_is b = go (field b) (b % 2 ^ 52)
  where
    go : (x t : ℕ) → cond (eqb x 0) t (2 ^ 52 + t) ≡ digits x t
    go zero t = refl
    go (suc x) t = rw (ne_eqb (suc x) 0 (λ (e : suc x ≡ 0). omega (arith, e)))

place_is : (b : ℕ) → place_in b ≡ place (field b)
place_is b = go (field b)
  where
    go : (x : ℕ) → x - 1 ≡ place x
    go zero = refl
    go (suc x) = omega arith

-- a finite double in units of 2 ^ -1074
pub parts : (b : ℕ) → field b < 2047 → HasValue (of_bits binary64 b) (leb (2 ^ 63) b) (digits_in b * 2 ^ place_in b) (2 ^ 1074)
parts b h = rw (digits_is b, place_is b) (value b h)

-- ---- powers of two

-- the double of the fields x and t, with the sign bit n
of_parts : (n x t w : ℕ) → n < 2 → x < 2047 → t < 2 ^ 52 → w ≡ x * 2 ^ 52 + t → HasValue (of_bits binary64 (n * 2 ^ 63 + w)) (eqb n 1) (digits x t * 2 ^ place x) (2 ^ 1074)
of_parts n x t w N X L e =
    let W = n * 2 ^ 63 + w in
    let f : field W ≡ x = omega arith in
    let r : W % 2 ^ 52 ≡ t = omega arith in
    let u : W / 2 ^ 63 ≡ n = omega arith in
    let v = value W (subst (λ (i : ℕ). i < 2047) (sym f) X) in
    let sign : leb (2 ^ 63) W ≡ eqb n 1 = sym (top_bit W (omega arith)) ∙ ap (λ (i : ℕ). eqb i 1) u in
    let size : digits (field W) (W % 2 ^ 52) * 2 ^ place (field W) ≡ digits x t * 2 ^ place x = ap (λ (i : ℕ). digits i (W % 2 ^ 52) * 2 ^ place i) f ∙ ap (λ (i : ℕ). digits x i * 2 ^ place x) r in
    subst (λ (s : Bool). HasValue (of_bits binary64 W) s (digits x t * 2 ^ place x) (2 ^ 1074)) sign
    (subst (λ (i : ℕ). HasValue (of_bits binary64 W) (leb (2 ^ 63) W) i (2 ^ 1074)) size v)

pub power_value : (n p : ℕ) → n < 2 → p < 2046 → HasValue (of_bits binary64 (power_bits n p)) (eqb n 1) (2 ^ p) (2 ^ 1074)
power_value n p N P = go (ltb p 52) refl
  where
    to : (x t w : ℕ) → x < 2047 → t < 2 ^ 52 → w ≡ x * 2 ^ 52 + t → digits x t * 2 ^ place x ≡ 2 ^ p → HasValue (of_bits binary64 (n * 2 ^ 63 + w)) (eqb n 1) (2 ^ p) (2 ^ 1074)
    to x t w X L e h = subst (λ (i : ℕ). HasValue (of_bits binary64 (n * 2 ^ 63 + w)) (eqb n 1) i (2 ^ 1074)) h (of_parts n x t w N X L e)

    small : p < 52 → 2 ^ p < 2 ^ 52
    small h = pow-lt h

    high : (k : ℕ) → 2 ^ 52 * 2 ^ k ≡ 2 ^ (52 + k)
    high k = sym (pow-add 2 52 k)

    go : (b : Bool) → ltb p 52 ≡ b → HasValue (of_bits binary64 (n * 2 ^ 63 + cond b (2 ^ p) ((p - 51) * 2 ^ 52))) (eqb n 1) (2 ^ p) (2 ^ 1074)
    go true e = let l = small (ltb-true p 52 e) in to 0 (2 ^ p) (2 ^ p) (omega arith) l (omega arith) (mul-one (2 ^ p))
    go false e =
        let l : 52 ≤ p = ltb-false p 52 e in
        let k : suc (p - 52) ≡ p - 51 = omega arith in
        let z : 52 + (p - 52) ≡ p = omega arith in
        to (suc (p - 52)) 0 ((p - 51) * 2 ^ 52) (omega arith) (pow_pos 52) (omega arith) (high (p - 52) ∙ ap (λ (i : ℕ). 2 ^ i) z)

-- ---- the remainder as the code makes it

pub twice : (n i d r : ℕ) → r ≡ n * 2 ^ i % d → r * 2 % d ≡ n * 2 ^ (i + 1) % d
twice n i d r e = ap (λ (z : ℕ). z * 2 % d) e ∙ mul-mod_first (n * 2 ^ i) 2 d ∙ ap (λ (z : ℕ). z % d) (mul_assoc n (2 ^ i) 2 ∙ ap (λ (z : ℕ). n * z) (sym (pow-add 2 i 1)))

short : (b : ℕ) → digits_in b < 2 ^ 53
short b = go (eqb (field b) 0)
  where
    go : (z : Bool) → cond z (b % 2 ^ 52) (2 ^ 52 + b % 2 ^ 52) < 2 ^ 53
    go true = omega arith
    go false = omega arith

full : (b : ℕ) → 0 < place_in b → 2 ^ 52 ≤ digits_in b
full b h = rw (ne_eqb (field b) 0 (λ (e : field b ≡ 0). omega arith)) (omega arith)

module _ (b c : ℕ) (B : b < 2 ^ 64) (first : field b < 2047) (second : field c < 2047) where
  sign : HasValue (of_bits binary64 b) (eqb (b / 2 ^ 63) 1) (digits_in b * 2 ^ place_in b) (2 ^ 1074)
  sign = subst (λ (s : Bool). HasValue (of_bits binary64 b) s (digits_in b * 2 ^ place_in b) (2 ^ 1074)) (sym (top_bit b B)) (parts b first)

  pub by_zero : digits_in c ≡ 0 → nan ≡ rem binary64 (of_bits binary64 b) (of_bits binary64 c)
  by_zero e =
      sym (rem_zero (of_bits binary64 b) (of_bits binary64 c) _ _ (digits_in b * 2 ^ place_in b) (2 ^ 1074) (pow_pos 1074) (parts b first)
      (subst (λ (i : ℕ). HasValue (of_bits binary64 c) (leb (2 ^ 63) c) i (2 ^ 1074)) (ap (λ (i : ℕ). i * 2 ^ place_in c) e ∙ zero-mul (2 ^ place_in c)) (parts c second)))

  -- r at the place k, with the sign of b
  made : (r k : ℕ) → r < 2 ^ 53 → k < 2046 → 0 < digits_in c → digits_in b * 2 ^ place_in b % (digits_in c * 2 ^ place_in c) ≡ r * 2 ^ k
      → mul binary64 (of_int binary64 (pos r)) (of_bits binary64 (power_bits (b / 2 ^ 63) k)) ≡ rem binary64 (of_bits binary64 b) (of_bits binary64 c)
  made r k R K C e =
      let s = eqb (b / 2 ^ 63) 1 in
      product (of_bits binary64 (power_bits (b / 2 ^ 63) k)) s r (2 ^ k) (2 ^ 1074) (omega arith) (pow_pos 1074) (power_value (b / 2 ^ 63) k (omega arith) K)
      ∙ ap (λ (i : ℕ). round binary64 s i (2 ^ 1074)) (sym e)
      ∙ sym (rem_value (of_bits binary64 b) (of_bits binary64 c) s (leb (2 ^ 63) c) (digits_in b * 2 ^ place_in b) (digits_in c * 2 ^ place_in c) (2 ^ 1074) (pow_pos 1074) sign (parts c second) (mul-pos C (pow_pos (place_in c))))

  -- where the last digit of c is worth more, c is the larger one
  pub by_short : place_in b < place_in c
      → mul binary64 (of_int binary64 (pos (digits_in b))) (of_bits binary64 (power_bits (b / 2 ^ 63) (place_in b))) ≡ rem binary64 (of_bits binary64 b) (of_bits binary64 c)
  by_short h =
      let m = digits_in b in
      let n = digits_in c in
      let p = place_in b in
      let q = place_in c in
      let N : 2 ^ 52 ≤ n = full c (omega arith) in
      let one : m * 2 ^ p < 2 ^ 53 * 2 ^ p = mul-lt-mul_of_pos_right (short b) (pow_pos p) in
      let two : 2 ^ 53 * 2 ^ p ≤ 2 ^ 52 * 2 ^ q = le_trans (le_of_eq (sym (pow-add 2 53 p))) (le_trans (pow_mono (over p q h)) (le_of_eq (pow-add 2 52 q))) in
      let three : 2 ^ 52 * 2 ^ q ≤ n * 2 ^ q = mul-le-mul_right (2 ^ q) N in
      made m p (short b) (omega arith) (omega arith) (mod-eq_of_lt (lt_of_lt_of_le one (le_trans two three)))
    where
      over : (p q : ℕ) → p < q → 53 + p ≤ 52 + q
      over p q h = omega arith

  pub by_long : (r : ℕ) → place_in c ≤ place_in b → 0 < digits_in c → r ≡ digits_in b * 2 ^ (place_in b - place_in c) % digits_in c
      → mul binary64 (of_int binary64 (pos r)) (of_bits binary64 (power_bits (b / 2 ^ 63) (place_in c))) ≡ rem binary64 (of_bits binary64 b) (of_bits binary64 c)
  by_long r h C e =
      let m = digits_in b in
      let n = digits_in c in
      let p = place_in b in
      let q = place_in c in
      let R : r < n = subst (λ (i : ℕ). i < n) (sym e) (mod-lt (m * 2 ^ (p - q)) C) in
      let S = short c in
      let z : p - q + q ≡ p = omega arith in
      let whole : m * 2 ^ p ≡ m * 2 ^ (p - q) * 2 ^ q = ap (λ (i : ℕ). m * 2 ^ i) (sym z) ∙ ap (λ (i : ℕ). m * i) (pow-add 2 (p - q) q) ∙ sym (mul_assoc m (2 ^ (p - q)) (2 ^ q)) in
      made r q (omega arith) (omega arith) C (ap (λ (i : ℕ). i % (n * 2 ^ q)) whole ∙ scaled_mod (m * 2 ^ (p - q)) n (2 ^ q) C (pow_pos q) ∙ ap (λ (i : ℕ). i * 2 ^ q) (sym e))

-- ---- what is no number, and what is finite

pub no_number : div binary64 (of_bits binary64 0) (of_bits binary64 0) ≡ nan
unfolding div of_bits
no_number = refl

pub bounded : (x : Float) → T (fits binary64 x) → (b : ℕ) → b ≡ to_bits binary64 x → finite_of x ≡ true → field b < 2047
bounded x F b is h = ltb-true (field b) 2047 (ap (λ (i : ℕ). ltb i 2047) (sym (field_mask b)) ∙ finite_is x F b is ∙ h)
