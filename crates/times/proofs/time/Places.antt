-- A clock time as one whole number, its ticks and its fraction in units of 2^-1074. The order of two times of a clock
-- is the order of their numbers. RULES, exact-size and time-order. Assumes nothing.
use Prim.Native.Nat.{ℕ, ◌+◌, ◌*◌, ◌^◌, ◌≤◌, ◌<◌, compare}
use Prim.Native.Nat as nat
use native.Mathlib.Decide.{dec_lt, ℕ_discrete}
use native.Mathlib.Nat.{suc-mul, mul-le-mul_right, le_trans, le_of_eq, mul_comm, mul-pos, lt_of_lt_of_le, lt_of_le_of_lt, mul-lt-mul_of_pos_right, lt_of_mul-lt-mul_right, le_of_lt, le_antisymm}
use native.Mathlib.Omega.{arith}
use mathlib.Core.Path.{◌≡◌, refl, sym, ap}
use mathlib.Core.Bool.{Bool, true, false, not, ◌||◌, true≢false, false≢true}
use lib.Dec.{T, ltb}
use lib.Pow.{pow_pos}
use lib.Ieee.{Float, nan, inf, fin, binary64, up, down, lt, eq, fits}
use lib.Ieee.Exact.{HasValue}
use lib.Ieee.Fits.{down_pos}
use borrow.Author.Tests.{ltb-true, lt-ltb, le-ltb, eq-eqb}
use Rattle.doubles.specs.Doubles.{one_f, sign_of, scaled}
use Rattle.doubles.proofs.Scaled.{scaled_value, crossed_le, crossed_lt}
use Rattle.judge.specs.Judge.{bad_fraction}
use Rattle.times.specs.Times.{exact_of, order_fractions, order_of, is_less}
use Rattle.times.specs.declared.time.ClockTime.{ClockTime}
use Rattle.std.specs.Prelude.{Option, Some}
use Rattle.std.specs.declared.cmp.Ordering.{Ordering}
use Rattle.std.specs.declared.cmp.Ordering.TheVariants.{Less, Equal, Greater}
use Rattle.times.proofs.duration.Compares.{compare_lt, compare_eq, compare_gt}

-- a number is below, at or above another
pub three : {P : Type 0} (a b : ℕ) → (a < b → P) → (a ≡ b → P) → (b < a → P) → P
three {P} a b l e g = go (dec_lt a b) (ℕ_discrete a b)
  where
    go : Dec (a < b) → Dec (a ≡ b) → P
    go (yes p) d = l p
    go (no n) (yes q) = e q
    go (no n) (no m) = g (omega arith)

-- ---- a fraction that is not refused

pub record Fraction (g : Float) : Type 0 where
  pub value : HasValue g false (scaled g) (2 ^ 1074)
  pub below : scaled g < 2 ^ 1074

neither : (a b : Bool) → (a || not b) ≡ false → (a ≡ false) × (b ≡ true)
neither true b h = absurd (true≢false h)
neither false true h = (refl, refl)
neither false false h = absurd (true≢false h)

pub fraction : (g : Float) → T (fits binary64 g) → bad_fraction g ≡ false → Fraction g
unfolding lt
fraction g F h = let r = neither (sign_of g) (lt g one_f) h in go g F r.0 r.1
  where
    plain : (M D : ℕ) → M * 1 < 1 * D → M < D
    plain M D h = omega arith

    go : (g : Float) → T (fits binary64 g) → sign_of g ≡ false → lt g one_f ≡ true → Fraction g
    go nan F s l = absurd (false≢true l)
    go (inf true) F s l = absurd (true≢false s)
    go (inf false) F s l = absurd (false≢true l)
    go (fin true m e) F s l = absurd (true≢false s)
    go (fin false m e) F s l =
        let v = scaled_value (fin false m e) F tt in
        let k : m * up e < down e = plain (m * up e) (down e) (ltb-true (m * up e * 1) (1 * down e) l) in
        record {
          value = v;
          below = lt_of_mul-lt-mul_right (down e) (lt_of_le_of_lt (le_of_eq (sym v.1)) (lt_of_lt_of_le (mul-lt-mul_of_pos_right k (pow_pos 1074)) (le_of_eq (mul_comm (down e) (2 ^ 1074)))));
        }

-- and back: what has no minus sign and is below 1 in size is not refused
pub not_refused : (x : Float) (k c : ℕ) → HasValue x false k c → k < c → bad_fraction x ≡ false
unfolding lt
not_refused nan k c v l = absurd v
not_refused (inf t) k c v l = absurd v
not_refused (fin true m e) k c v l = absurd (true≢false v.0)
not_refused (fin false m e) k c v l =
    let h : m * up e < down e = lt_of_mul-lt-mul_right c (lt_of_le_of_lt (le_of_eq v.1) (lt_of_lt_of_le (mul-lt-mul_of_pos_right l (down_pos e)) (le_of_eq (mul_comm c (down e))))) in
    rw (lt-ltb (m * up e * 1) (1 * down e) (plain (m * up e) (down e) h))
  where
    plain : (M D : ℕ) → M < D → M * 1 < 1 * D
    plain M D h = omega arith

-- ---- the order of two numbers, and of two fractions that are a / u and b / u

abbrev pub ordered : nat.Ordering → Option Ordering
ordered nat.Ordering.lt = Some Less
ordered nat.Ordering.eq = Some Equal
ordered nat.Ordering.gt = Some Greater

pub is_less_lem : (a b : ℕ) → is_less (ordered (compare a b)) ≡ ltb a b
is_less_lem a b =
    three a b
    (λ h. rw (compare_lt a b h, lt-ltb a b h))
    (λ h. rw (compare_eq a b h, le-ltb a b (le_of_eq (sym h))))
    (λ h. rw (compare_gt a b h, le-ltb a b (le_of_lt h)))

fractions : (f g : Float) (a b u : ℕ) → 0 < u → HasValue f false a u → HasValue g false b u → order_fractions f g ≡ ordered (compare a b)
unfolding lt eq
fractions nan g a b u U v w = absurd v
fractions (inf s) g a b u U v w = absurd v
fractions (fin true m e) g a b u U v w = absurd (true≢false v.0)
fractions (fin false m e) nan a b u U v w = absurd w
fractions (fin false m e) (inf t) a b u U v w = absurd w
fractions (fin false m e) (fin true n d) a b u U v w = absurd (true≢false w.0)
fractions (fin false m e) (fin false n d) a b u U v w =
    let X = m * up e in
    let Y = n * up d in
    let x = X * down d in
    let y = Y * down e in
    let less : a < b → x < y = crossed_lt X Y (down e) (down d) a b u U v.1 w.1 (mul-pos (down_pos e) (down_pos d)) in
    let more : b < a → y < x = crossed_lt Y X (down d) (down e) b a u U w.1 v.1 (mul-pos (down_pos d) (down_pos e)) in
    let up_to : a ≤ b → x ≤ y = crossed_le Y X (down d) (down e) b a u U w.1 v.1 in
    let from : b ≤ a → y ≤ x = crossed_le X Y (down e) (down d) a b u U v.1 w.1 in
    three a b
    (λ h. rw (lt-ltb x y (less h), compare_lt a b h))
    (λ h.
    let i = up_to (le_of_eq h) in
    let j = from (le_of_eq (sym h)) in
    rw (le-ltb x y j, le-ltb y x i, eq-eqb x y (le_antisymm i j), compare_eq a b h))
    (λ h. rw (le-ltb x y (le_of_lt (more h)), lt-ltb y x (more h), compare_gt a b h))

-- ---- ticks and fraction

module _ (n m u a b : ℕ) where
  pub before : a < u → n < m → n * u + a < m * u + b
  before A h = let k : n * u + u ≤ m * u = le_trans (le_of_eq (sym (suc-mul n u))) (mul-le-mul_right u h) in omega arith

  level : n ≡ m → compare (n * u + a) (m * u + b) ≡ compare a b
  level e =
      rw e
      (three a b
      (λ h. rw (compare_lt (m * u + a) (m * u + b) (omega arith), compare_lt a b h))
      (λ h. rw (compare_eq (m * u + a) (m * u + b) (omega arith), compare_eq a b h))
      (λ h. rw (compare_gt (m * u + a) (m * u + b) (omega arith), compare_gt a b h)))

-- the order of two times of one clock: RULES, time-order
pub order_places : (s t : ClockTime) → s.clock ≡ t.clock → Fraction s.fraction → Fraction t.fraction → order_of s t ≡ ordered (compare (exact_of s) (exact_of t))
unfolding order_of
order_places s t c F G =
    let n = s.ticks in
    let m = t.ticks in
    let a = scaled s.fraction in
    let b = scaled t.fraction in
    let u = 2 ^ 1074 in
    rw (eq-eqb s.clock.slot t.clock.slot (ap (λ i. i.slot) c), eq-eqb s.clock.generation t.clock.generation (ap (λ i. i.generation) c))
    (three n m
    (λ h. rw (compare_lt n m h, compare_lt (n * u + a) (m * u + b) (before n m u a b F.below h)))
    (λ h. rw (compare_eq n m h, level n m u a b h) (fractions s.fraction t.fraction a b u (pow_pos 1074) F.value G.value))
    (λ h. rw (compare_gt n m h, compare_gt (n * u + a) (m * u + b) (before m n u b a G.below h))))
