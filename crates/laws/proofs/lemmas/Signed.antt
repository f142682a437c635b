-- A mix a + (b - a) * t of two doubles in -2^40..2^40 lies in -2^40..2^40 for t in 0..1: b - a is rounded by half a
-- unit of 2^41 at most, and 2^40 is the nearest double to all that lies so far beyond it. RULES, interpolation. Assumes
-- nothing.
use Prim.Native.Nat.{ℕ, ◌+◌, ◌-◌, ◌*◌, ◌^◌, ◌≤◌, ◌<◌}
use native.Mathlib.Nat.{le_refl, le_trans as leq-trans, le_of_eq, zero-lt-suc, one-mul, mul-one, mul_assoc, mul_comm, mul_right_comm, mul-sub, add-mul, mul-pos, mul-le-mul_right, le_of_mul-le-mul_right, lt_of_mul-lt-mul_right, mul-lt-mul_of_pos_right, add-le-add}
use native.Mathlib.Omega.{arith}
use mathlib.Core.Path.{◌≡◌, refl, sym, ap, ◌∙◌, subst}
use mathlib.Core.Logic.{◌⊎◌, inl, inr}
use mathlib.Core.Bool.{Bool, true, false, not, ◌&&◌, cond, true≢false, false≢true}
use lib.IntN.{pos}
use lib.Dec.{T, ltb}
use lib.Pow.{pow_pos, pow_mono}
use lib.Ieee.{Float, nan, inf, fin, Format, binary64, low, up, down, size, round, sum, neg, add, sub, mul, le, fits}
use lib.Ieee.Digits.{size-le}
use lib.Ieee.Exact.{HasValue}
use lib.Ieee.Fits.{down_pos, sub-fits, add-fits}
use lib.Ieee.Order.{transfer, round_mono}
use lib.Ieee.Positive.{num, den, den_pos}
use lib.Ieee.Scale.{grid, overflow, finite, round_same, round_val, round_under}
use borrow.Author.Tests.{ltb-true, ltb-false, lt-ltb, le-ltb}
use Rattle.doubles.specs.Doubles.{zero_f, sign_of}
use Rattle.doubles.specs.Intervals.{Between, InUnit}
use Rattle.doubles.proofs.Unit.{Side, Rounds, no_times, none, le→order, order→le, le_trans, between_finite, round_least, round_value, grid_le, upto_of_between, value_upto}
use Rattle.doubles.proofs.Ranges.{Is, closest_over, grid_whole, rounds_is, is_mul, steady_40}
use Rattle.doubles.proofs.Quotients.{gap, sum_gap, units_of}
use Rattle.values.specs.Tweenables.{interpolate_of}
use Rattle.laws.specs.Sound.{Within, Sized}

-- ---- a sum of sizes over another denominator

same_order : (a b c a' b' c' : ℕ) → 0 < c → 0 < c' → a * c' ≡ a' * c → b * c' ≡ b' * c → ltb a b ≡ ltb a' b'
same_order a b c a' b' c' C C' p q = go (ltb a b) (ltb-true a b) (ltb-false a b)
  where
    go : (x : Bool) → (x ≡ true → a < b) → (x ≡ false → b ≤ a) → x ≡ ltb a' b'
    go true h k = sym (lt-ltb a' b' (lt_of_mul-lt-mul_right c (subst (λ (z : ℕ). z < b' * c) p (subst (λ (z : ℕ). a * c' < z) q (mul-lt-mul_of_pos_right (h refl) C')))))
    go false h k = sym (le-ltb a' b' (le_of_mul-le-mul_right (subst (λ (z : ℕ). z ≤ a' * c) q (subst (λ (z : ℕ). b * c' ≤ z) p (mul-le-mul_right c' (k refl)))) C))

minus_mul : (x y k : ℕ) → (x - y) * k ≡ x * k - y * k
minus_mul x y k = mul_comm (x - y) k ∙ mul-sub k x y ∙ ap (λ (z : ℕ). z - k * y) (mul_comm k x) ∙ ap (λ (z : ℕ). x * k - z) (mul_comm k y)

module _ (f : Format) (a b c a' b' c' : ℕ) (C : 0 < c) (C' : 0 < c') (p : a * c' ≡ a' * c) (q : b * c' ≡ b' * c) where
  sum_plus : (s : Bool) → round f s (a + b) c ≡ round f s (a' + b') c'
  sum_plus s = round_same f s (a + b) c (a' + b') c' C C' (add-mul a b c' ∙ ap (λ (z : ℕ). z + b * c') p ∙ ap (λ (z : ℕ). a' * c + z) q ∙ sym (add-mul a' b' c))

  sum_minus : (s t : Bool) → cond (ltb a b) (round f t (b - a) c) (round f (s && ltb b a) (a - b) c) ≡ cond (ltb a' b') (round f t (b' - a') c') (round f (s && ltb b' a') (a' - b') c')
  sum_minus s t =
      rw (
        same_order a b c a' b' c' C C' p q,
        same_order b a c b' a' c' C C' q p,
        round_same f t (b - a) c (b' - a') c' C C' (minus_mul b a c' ∙ ap (λ (z : ℕ). z - a * c') q ∙ ap (λ (z : ℕ). b' * c - z) p ∙ sym (minus_mul b' a' c)),
        round_same f (s && ltb b' a') (a - b) c (a' - b') c' C C' (minus_mul a b c' ∙ ap (λ (z : ℕ). z - b * c') p ∙ ap (λ (z : ℕ). a' * c - z) q ∙ sym (minus_mul a' b' c)),
      )

  sum_same : (s t : Bool) → sum f s a t b c ≡ sum f s a' t b' c'
  unfolding sum
  sum_same false false = sum_plus false
  sum_same false true = sum_minus false true
  sum_same true false = sum_minus true false
  sum_same true true = sum_plus true

-- so a sum of two doubles is one of their sizes in units of the smallest double
module _ (f : Format) where
  add_units : (x y : Float) (s t : Bool) (a b : ℕ) → HasValue x s a (2 ^ low f) → HasValue y t b (2 ^ low f) → add f x y ≡ sum f s a t b (2 ^ low f)
  unfolding add
  add_units nan y s t a b h k = absurd h
  add_units (inf u) y s t a b h k = absurd h
  add_units (fin u m e) nan s t a b h k = absurd k
  add_units (fin u m e) (inf v) s t a b h k = absurd k
  add_units (fin u m e) (fin v n d) s t a b h k =
      let w = 2 ^ low f in
      sum_same f (m * up e * down d) (n * up d * down e) (down e * down d) a b w (mul-pos (down_pos e) (down_pos d)) (pow_pos (low f))
      (mul_right_comm (m * up e) (down d) w ∙ ap (λ (z : ℕ). z * down d) h.1 ∙ mul_assoc a (down e) (down d))
      (mul_right_comm (n * up d) (down e) w ∙ ap (λ (z : ℕ). z * down e) k.1 ∙ mul_assoc b (down d) (down e) ∙ ap (λ (z : ℕ). b * z) (mul_comm (down d) (down e)))
      u v
      ∙ ap (λ (z : Bool). sum f z a v b w) h.0
      ∙ ap (λ (z : Bool). sum f s a z b w) k.0

  neg_value : (y : Float) (t : Bool) (b c : ℕ) → HasValue y t b c → HasValue (neg y) (not t) b c
  unfolding neg
  neg_value nan t b c h = absurd h
  neg_value (inf s) t b c h = absurd h
  neg_value (fin s m e) t b c h = (ap not h.0, h.1)

  sub_units : (x y : Float) (s t : Bool) (a b : ℕ) → HasValue x s a (2 ^ low f) → HasValue y t b (2 ^ low f) → sub f x y ≡ sum f s a (not t) b (2 ^ low f)
  unfolding sub
  sub_units x y s t a b h k = add_units x (neg y) s (not t) a b h (neg_value y t b (2 ^ low f) k)

-- ---- a difference, and what is added of it

-- from A units on the side s, the difference to B units is G units: on towards B on the same side, or back
abbrev pub Apart : Bool → ℕ → ℕ → Bool → ℕ → Type 0
Apart s A B u G = (Side s u G × (A + G ≤ B)) ⊎ (Side (not s) u G × (G ≤ A + B))

module _ (f : Format) (A B c : ℕ) where
  pub apart : (s t : Bool) → (u : Bool) × (G : ℕ) × (sum f t B (not s) A c ≡ round f u G c) × Apart s A B u G
  unfolding sum
  apart false false = go (ltb B A) (ltb-true B A) (ltb-false B A)
    where
      go : (x : Bool) → (x ≡ true → B < A) → (x ≡ false → A ≤ B) → (u : Bool) × (G : ℕ) × (cond x (round f true (A - B) c) (round f false (B - A) c) ≡ round f u G c) × Apart false A B u G
      go true h k = (true, A - B, refl, inr (inl refl, omega arith))
      go false h k = let l : A ≤ B = k refl in (false, B - A, refl, inl (inl refl, omega arith))
  apart true true = go (ltb B A) (ltb-true B A) (ltb-false B A)
    where
      side : (x : Bool) → (x ≡ false → B ≤ A) → Side true x (B - A)
      side true h = inl refl
      side false h = let l : B ≤ A = h refl in inr (omega arith)

      go : (x : Bool) → (x ≡ true → B < A) → (x ≡ false → A ≤ B) → (u : Bool) × (G : ℕ) × (cond x (round f false (A - B) c) (round f (ltb A B) (B - A) c) ≡ round f u G c) × Apart true A B u G
      go true h k = (false, A - B, refl, inr (inl refl, omega arith))
      go false h k = let l : A ≤ B = k refl in (ltb A B, B - A, refl, inl (side (ltb A B) (ltb-false A B), omega arith))
  apart false true = (true, B + A, refl, inr (inl refl, omega arith))
  apart true false = (false, B + A, refl, inr (inl refl, omega arith))

-- a sum is no larger than its two sizes together
pub summed : (f : Format) (s t : Bool) (a b c : ℕ) → (u : Bool) × (G : ℕ) × (sum f s a t b c ≡ round f u G c) × (G ≤ a + b)
summed f s t a b c = go t
  where
    most : (v u : Bool) (G : ℕ) → Apart v b a u G → G ≤ a + b
    most v u G (inl h) = let l : b + G ≤ a = h.1 in omega arith
    most v u G (inr h) = let l : G ≤ b + a = h.1 in omega arith

    go : (t : Bool) → (u : Bool) × (G : ℕ) × (sum f s a t b c ≡ round f u G c) × (G ≤ a + b)
    go false = let r = apart f b a c true s in (r.0, r.1, r.2, most true r.0 r.1 r.3)
    go true = let r = apart f b a c false s in (r.0, r.1, r.2, most false r.0 r.1 r.3)

-- H units with the sign t, on the side s or on the other, against A units with the sign s
module _ (A H : ℕ) where
  away : (s t : Bool) → Side s t H → gap s A (not t) H ≡ A + H
  away false false k = refl
  away false true (inl p) = absurd (true≢false p)
  away false true (inr z) = omega arith
  away true false (inl p) = absurd (false≢true p)
  away true false (inr z) = omega arith
  away true true k = refl

  back : (s t : Bool) → Side (not s) t H → gap s A (not t) H ≡ A - H + (H - A)
  back false false (inl p) = absurd (false≢true p)
  back false false (inr z) = omega arith
  back false true k = refl
  back true false k = refl
  back true true (inl p) = absurd (true≢false p)
  back true true (inr z) = omega arith

not_not : (t : Bool) → not (not t) ≡ t
not_not false = refl
not_not true = refl

added : (f : Format) (s t : Bool) (A H c : ℕ) → (u : Bool) × (sum f s A t H c ≡ round f u (gap s A (not t) H) c)
added f s t A H c = let r = sum_gap f s A (not t) H c in (r.0, ap (λ (z : Bool). sum f s A z H c) (sym (not_not t)) ∙ r.1)

-- H units are what is added of G units, with an error of E / 2 at most
module _ (A B C E G H : ℕ) (b : B ≤ C) (h : H * 2 ≤ G * 2 + E) where
  further : (s t : Bool) → Side s t H → A + G ≤ B → gap s A (not t) H * 2 ≤ C * 2 + E
  further s t k l = rw (away A H s t k) (omega arith)

  nearer : (s t : Bool) → Side (not s) t H → A ≤ C → G ≤ A + B → gap s A (not t) H * 2 ≤ C * 2 + E
  nearer s t k a l = rw (back A H s t k) (omega arith)

-- ---- half a unit of 2 ^ 41, and 2 ^ 40 with so much more

-- z units of the smallest double, up to 2 ^ 41, are rounded by half a unit of 2 ^ 41 at most
half_unit : (z : ℕ) → z ≤ 2 ^ 1115 → grid binary64 z (2 ^ 1074) * 2 ≤ z * 2 + 2 ^ 1062
half_unit z h = go (ltb z (2 ^ 1115)) (ltb-true z (2 ^ 1115)) (ltb-false z (2 ^ 1115))
  where
    more : (x y : ℕ) → x ≤ x + y
    more x y = omega arith

    less : (s : ℕ) → s ≤ 1115 → s - 53 ≤ 1062
    less s l = omega arith

    go : (b : Bool) → (b ≡ true → z < 2 ^ 1115) → (b ≡ false → 2 ^ 1115 ≤ z) → grid binary64 z (2 ^ 1074) * 2 ≤ z * 2 + 2 ^ 1062
    go true p q =
        let k = size z - 53 in
        leq-trans (le_of_eq (ap (λ (g : ℕ). g * 2) (grid_whole binary64 z)))
        (leq-trans (closest_over z (2 ^ k) (pow_pos k)) (add-le-add (le_refl (z * 2)) (pow_mono (less (size z) (size-le z 1115 (p refl))))))
    go false p q =
        let l = grid_le binary64 (fin false 1 (pos 41)) z (2 ^ 1074) (2 ^ 41) 1 (pow_pos 1074) (zero-lt-suc 0) (unfold fits in tt) (refl, refl) (leq-trans (le_of_eq (mul-one z)) h) in
        leq-trans (mul-le-mul_right 2 (leq-trans (le_of_eq (sym (mul-one (grid binary64 z (2 ^ 1074))))) (leq-trans l.1 (q refl)))) (more (z * 2) (2 ^ 1062))

-- ---- sizes and ranges

pub within_finite : (k : ℕ) (x : Float) → Within k x → T (finite x)
within_finite k x h = between_finite (fin true 1 (pos k)) x (fin false 1 (pos k)) tt tt h

pub size_of : (k : ℕ) (x : Float) → Within k x → T (finite x) × (num x * 1 ≤ 1 * 2 ^ k * den x)
size_of k x h = go x (within_finite k x h) h
  where
    go : (x : Float) → T (finite x) → Within k x → T (finite x) × (num x * 1 ≤ 1 * 2 ^ k * den x)
    go nan F h = absurd F
    go (inf s) F h = absurd F
    go (fin false m e) F h = (tt, le→order false m e false 1 (pos k) h.most)
    go (fin true m e) F h = (tt, le→order true 1 (pos k) true m e h.least)

pub of_size : (k : ℕ) (x : Float) → T (finite x) → num x * 1 ≤ 1 * 2 ^ k * den x → Within k x
of_size k nan F h = absurd F
of_size k (inf s) F h = absurd F
of_size k (fin false m e) F h = record { least = order→le true 1 (pos k) false m e tt; most = order→le false m e false 1 (pos k) h }
of_size k (fin true m e) F h = record { least = order→le true 1 (pos k) true m e h; most = order→le true m e false 1 (pos k) tt }

units_within : (x : Float) (t : Bool) (g : ℕ) → HasValue x t g (2 ^ 1074) → g * 1 ≤ 2 ^ 40 * 2 ^ 1074 → Within 40 x
units_within nan t g v l = absurd v
units_within (inf s) t g v l = absurd v
units_within (fin s m e) t g v l = of_size 40 (fin s m e) tt (transfer (m * up e) (2 ^ 40) (down e) 1 g (2 ^ 40) (2 ^ 1074) 1 (pow_pos 1074) (zero-lt-suc 0) v.1 refl l)

-- n units, up to 2 ^ 40 and half a unit of 2 ^ 41 more, round to 2 ^ 40 at most
steady_within : (t : Bool) (n : ℕ) → n * 2 ≤ 2 ^ 40 * 2 ^ 1074 * 2 + 2 ^ 1062 → Within 40 (round binary64 t n (2 ^ 1074))
steady_within t n h =
    let c : Float = fin false 1 (pos 40) in
    let x : Float = round binary64 false n (2 ^ 1074) in
    let p : T (le x c) =
    le_trans x (round binary64 false (2 ^ 40 * (2 ^ 53 + 1)) (2 ^ 53)) c
    (round_mono binary64 n (2 ^ 1074) (2 ^ 40 * (2 ^ 53 + 1)) (2 ^ 53) (pow_pos 1074) (pow_pos 53) (scaled n h))
    steady_40 in
    let r : Between zero_f x c = record { least = round_least binary64 n (2 ^ 1074) (pow_pos 1074); most = p } in
    let g : grid binary64 n (2 ^ 1074) < overflow binary64 = round_under binary64 n (2 ^ 1074) (between_finite zero_f x c tt tt r) in
    units_within (round binary64 t n (2 ^ 1074)) t (grid binary64 n (2 ^ 1074)) (round_value binary64 t n (2 ^ 1074) g)
    (value_upto x false false (grid binary64 n (2 ^ 1074)) (2 ^ 1074) (2 ^ 40) 1 (zero-lt-suc 0) (round_val binary64 n (2 ^ 1074) g) (upto_of_between x c tt r))
  where
    doubled : (n c e k : ℕ) → n * 2 ≤ c * 2 + e → e * k ≡ c * 2 → n * k ≤ c * (k + 1)
    doubled n c e k h q =
        let more : c * (k + 1) ≡ c * k + c = mul_comm c (k + 1) ∙ add-mul k 1 c ∙ ap (λ (z : ℕ). z + 1 * c) (mul_comm k c) ∙ ap (λ (z : ℕ). c * k + z) (one-mul c) in
        let spread : c * 2 * k + c * 2 ≡ c * (k + 1) * 2 = omega (arith, mul_right_comm c 2 k) in
        le_of_mul-le-mul_right
        (leq-trans (le_of_eq (mul_right_comm n k 2))
        (leq-trans (mul-le-mul_right k h) (le_of_eq (add-mul (c * 2) e k ∙ ap (λ (z : ℕ). c * 2 * k + z) q ∙ spread))))
        (zero-lt-suc 1)

    scaled : (n : ℕ) → n * 2 ≤ 2 ^ 40 * 2 ^ 1074 * 2 + 2 ^ 1062 → n * 2 ^ 53 ≤ 2 ^ 40 * (2 ^ 53 + 1) * 2 ^ 1074
    scaled n h = leq-trans (doubled n (2 ^ 40 * 2 ^ 1074) (2 ^ 1062) (2 ^ 53) h refl) (le_of_eq (mul_right_comm (2 ^ 40) (2 ^ 1074) (2 ^ 53 + 1)))

-- ---- the mix

-- a double within 2 ^ 40 has a sign and a number of units
counted : (x : Float) → Sized x → (g : ℕ) × HasValue x (sign_of x) g (2 ^ 1074) × (g ≤ 2 ^ 40 * 2 ^ 1074)
counted x h =
    let k = size_of 40 x h.1 in
    let u = units_of binary64 x h.0 k.0 in
    (u.0, go x u.0 k.0 u.1, leq-trans (le_of_eq (sym (mul-one u.0))) (transfer u.0 (2 ^ 40) (2 ^ 1074) 1 (num x) (2 ^ 40) (den x) 1 (den_pos x) (zero-lt-suc 0) (sym u.1) refl k.1))
  where
    go : (x : Float) (g : ℕ) → T (finite x) → num x * 2 ^ 1074 ≡ g * den x → HasValue x (sign_of x) g (2 ^ 1074)
    go nan g F e = absurd F
    go (inf s) g F e = absurd F
    go (fin s m d) g F e = (refl, e)

-- what is on the side s has that sign, or no units
signed : (s : Bool) (x : Float) (g : ℕ) → Is binary64 s x g → HasValue x (sign_of x) g (2 ^ 1074) × Side s (sign_of x) g
signed s nan g h = absurd h.0
signed s (inf t) g h = absurd h.0
signed s (fin t m e) g h = ((refl, h.1), go h.0)
  where
    go : Side s t m → Side s t g
    go (inl p) = inl p
    go (inr z) = inr (none g (down e) (down_pos e) (le_of_eq (sym h.1 ∙ no_times (m * up e) (2 ^ 1074) (no_times m (up e) z))))

-- d is the rounded difference b - a, of G units on the side v; `most` bounds what any part of it leads to from a
module _ (a t d : Float) (s v : Bool) (A G : ℕ) (p : HasValue a s A (2 ^ 1074)) (i : InUnit t) (F : T (fits binary64 d)) (r : Rounds binary64 d v G (2 ^ 1074)) (j : G ≤ 2 ^ 1115) where
  sum_within : ((H : ℕ) (w : Bool) → H * 2 ≤ G * 2 + 2 ^ 1062 → Side v w H → gap s A (not w) H * 2 ≤ 2 ^ 40 * 2 ^ 1074 * 2 + 2 ^ 1062) → Within 40 (add binary64 a (mul binary64 d t))
  sum_within most =
      let x = rounds_is binary64 d (fin false 1 (pos 41)) v G (2 ^ 1074) (2 ^ 41) 1 (pow_pos 1074) (zero-lt-suc 0) (unfold fits in tt) (refl, refl) r (leq-trans (le_of_eq (mul-one G)) j) in
      let m = is_mul binary64 v d t (grid binary64 G (2 ^ 1074)) F x.0 i in
      let y = mul binary64 d t in
      let H = m.0 in
      let q = signed v y H m.1 in
      let e = added binary64 s (sign_of y) A H (2 ^ 1074) in
      subst (Within 40) (sym (add_units binary64 a y s (sign_of y) A H p q.0 ∙ e.1))
      (steady_within e.0 (gap s A (not (sign_of y)) H) (most H (sign_of y) (leq-trans (mul-le-mul_right 2 m.2) (half_unit G j)) q.1))

pub lerp_within : (a b t : Float) → Sized a → Sized b → InUnit t → Sized (interpolate_of a b t)
lerp_within a b t h k i =
    let C = 2 ^ 40 * 2 ^ 1074 in
    let E = 2 ^ 1062 in
    let A = counted a h in
    let B = counted b k in
    let r = apart binary64 A.0 B.0 (2 ^ 1074) (sign_of a) (sign_of b) in
    let e : sub binary64 b a ≡ round binary64 r.0 r.1 (2 ^ 1074) = sub_units binary64 b a (sign_of b) (sign_of a) B.0 A.0 B.1 A.1 ∙ r.2 in (
      add-fits binary64 a _,
      elim r.3 [
        | inl l ↦
            sum_within a t (sub binary64 b a) (sign_of a) (sign_of a) A.0 r.1 A.1 i (sub-fits binary64 b a) (r.0, e, l.0) (leq-trans (part A.0 r.1 B.0 C l.1 B.2) (le_refl (2 ^ 1115)))
            (λ H w m n. further A.0 B.0 C E r.1 H B.2 m (sign_of a) w n l.1)
        | inr l ↦
            sum_within a t (sub binary64 b a) (sign_of a) (not (sign_of a)) A.0 r.1 A.1 i (sub-fits binary64 b a) (r.0, e, l.0) (leq-trans (whole A.0 r.1 B.0 C l.1 A.2 B.2) (le_refl (2 ^ 1115)))
            (λ H w m n. nearer A.0 B.0 C E r.1 H B.2 m (sign_of a) w n A.2 l.1)
      ],
    )
  where
    part : (a g b c : ℕ) → a + g ≤ b → b ≤ c → g ≤ c * 2
    part a g b c h k = omega arith

    whole : (a g b c : ℕ) → g ≤ a + b → a ≤ c → b ≤ c → g ≤ c * 2
    whole a g b c h k l = omega arith
