-- Doubles of the grid as whole numbers, in units of 2^-32: there a sum is exact, and so are the whole ticks taken off
-- it. RULES, exact-sum and grid. Assumes nothing.
use Prim.Native.Nat.{ℕ, ◌+◌, ◌-◌, ◌*◌, ◌/◌, ◌%◌, ◌^◌, ◌≤◌, ◌<◌, min}
use native.Mathlib.Nat.{le_trans, le_of_eq, lt_of_lt_of_le, add-zero, add-mul, mul_assoc, mul_comm, mul_right_comm, mul-pos, le_of_mul-le-mul_right, div-add-mod'}
use native.Mathlib.Omega.{arith}
use mathlib.Core.Path.{◌≡◌, refl, sym, ap, ◌∙◌, subst}
use mathlib.Core.Logic.{inl, inr}
use mathlib.Core.Bool.{Bool, true, false, false≢true}
use lib.Dec.{T, ltb, lit≤}
use lib.Pow.{pow_pos, shl_lt}
use lib.Ieee.{Float, nan, inf, fin, binary64, up, down, round, add, fits}
use lib.Ieee.Exact.{HasValue, round_exact}
use lib.Ieee.Fits.{up_pos, sub-fits}
use lib.Ieee.Positive.{num, den, den_pos}
use lib.Ieee.Scale.{finite}
use borrow.Author.Tests.{ltb-false}
use Rattle.doubles.specs.Doubles.{sign_of, finite_of, whole_of, fract_of, scaled}
use Rattle.doubles.proofs.Scaled.{rescale, value_finite, scaled_is, scaled_value}
use Rattle.doubles.proofs.Unit.{none, no_times, On, add_rounds}
use Rattle.ticks.specs.WholeTicks.{room_for, taken_of}
use Rattle.ticks.specs.declared.Position.{Position}
use Rattle.judge.specs.Answer.{accepted}
use Rattle.ticks.proofs.Parts.{ticks_of, ticks_value, fract_value}
use Rattle.ticks.proofs.Sums.{room, taken_room}
use Rattle.laws.proofs.lemmas.Clear.{add_clear}
use Rattle.demands.specs.Served.{Grid}

-- ---- in units of 2^-32

abbrev pub Parts : Float → Bool → ℕ → Type 0
Parts x s k = HasValue x s k (2 ^ 32)

pub parts_scaled : (x : Float) (s : Bool) (k : ℕ) → Parts x s k → scaled x ≡ k * 2 ^ 1042
parts_scaled x s k v = scaled_is x s (k * 2 ^ 1042) (rescale x s k (2 ^ 32) (k * 2 ^ 1042) (2 ^ 1074) (pow_pos 32) (mul_assoc k (2 ^ 1042) (2 ^ 32)) v)

pub parts_value : (x : Float) (s : Bool) (k : ℕ) → Parts x s k → HasValue x s (scaled x) (2 ^ 1074)
parts_value x s k v = subst (λ (z : ℕ). HasValue x s z (2 ^ 1074)) (sym (parts_scaled x s k v)) (rescale x s k (2 ^ 32) (k * 2 ^ 1042) (2 ^ 1074) (pow_pos 32) (mul_assoc k (2 ^ 1042) (2 ^ 32)) v)

scaled_parts : (x : Float) (s : Bool) (k : ℕ) → HasValue x s (k * 2 ^ 1042) (2 ^ 1074) → Parts x s k
scaled_parts x s k v = rescale x s (k * 2 ^ 1042) (2 ^ 1074) k (2 ^ 32) (pow_pos 1074) (sym (mul_assoc k (2 ^ 1042) (2 ^ 32))) v

-- ---- an advance

-- a double of the grid is a count of parts
pub record OnGrid (x : Float) : Type 0 where
  pub count : ℕ
  pub parts : Parts x (sign_of x) count
  pub few : count ≤ 65536 * 2 ^ 32
  pub side : On false x
  pub size : scaled x ≡ count * 2 ^ 1042

is_finite : (x : Float) → finite_of x ≡ true → T (finite x)
is_finite nan h = absurd (false≢true h)
is_finite (inf s) h = absurd (false≢true h)
is_finite (fin s m e) h = tt

not_below : (x : Float) → HasValue x (sign_of x) (scaled x) (2 ^ 1074) → (sign_of x ≡ true → scaled x ≡ 0) → On false x
not_below nan v h = v
not_below (inf s) v h = v
not_below (fin false m e) v h = inl refl
not_below (fin true m e) v h =
    inr (none m (up e) (up_pos e) (le_of_eq (none (m * up e) (2 ^ 1074) (pow_pos 1074) (le_of_eq (v.1 ∙ no_times (scaled (fin true m e)) (down e) (h refl))))))

pub on_grid : (x : Float) → T (fits binary64 x) → Grid x → OnGrid x
on_grid x F G =
    let k = scaled x / 2 ^ 1042 in
    let v = scaled_value x F (is_finite x G.finite) in
    let e : scaled x ≡ k * 2 ^ 1042 = sym (div-add-mod' (scaled x) (2 ^ 1042)) ∙ ap (λ (z : ℕ). k * 2 ^ 1042 + z) G.multiple ∙ add-zero (k * 2 ^ 1042) in
    record {
      count = k;
      parts = scaled_parts x (sign_of x) k (subst (λ (z : ℕ). HasValue x (sign_of x) z (2 ^ 1074)) e v);
      few = le_of_mul-le-mul_right (le_trans (le_of_eq (sym e)) (le_trans G.most (le_of_eq (sym (mul_assoc 65536 (2 ^ 32) (2 ^ 1042)))))) (pow_pos 1042);
      side = not_below x v G.least;
      size = e;
    }

-- ---- a sum

small : (k : ℕ) → k < 2 ^ 53 → k * 2 ^ 1042 < 2 ^ (1074 + 1024)
small k h = lt_of_lt_of_le (shl_lt 53 1042 h) (lit≤ tt)

cross : (x : Float) (s : Bool) (k c : ℕ) → HasValue x s k c → num x * c ≡ k * den x
cross nan s k c v = absurd v
cross (inf t) s k c v = absurd v
cross (fin t m e) s k c v = v.1

-- two fractions over one denominator
joined : (x y d e a b l : ℕ) → x * l ≡ a * d → y * l ≡ b * e → (x * e + y * d) * l ≡ (a + b) * (d * e)
joined x y d e a b l p q =
    add-mul (x * e) (y * d) l
    ∙ ap (λ (z : ℕ). z + y * d * l) (mul_right_comm x e l ∙ ap (λ (z : ℕ). z * e) p ∙ mul_assoc a d e)
    ∙ ap (λ (z : ℕ). a * (d * e) + z) (mul_right_comm y d l ∙ ap (λ (z : ℕ). z * d) q ∙ mul_assoc b e d ∙ ap (λ (z : ℕ). b * z) (mul_comm e d))
    ∙ sym (add-mul a b (d * e))

plus_side : (x : Float) (k : ℕ) → Parts x false k → On false x
plus_side nan k v = v
plus_side (inf t) k v = v
plus_side (fin t m e) k v = inl v.0

pub add_parts : (x y : Float) (s : Bool) (a b : ℕ) → Parts x false a → Parts y s b → On false y → a + b < 2 ^ 53 → Parts (add binary64 x y) false (a + b)
add_parts x y s a b X Y o l =
    let r = add_rounds binary64 x y (plus_side x a X) o in
    let N = num x * den y + num y * den x in
    let D = den x * den y in
    let P : 0 < D = mul-pos (den_pos x) (den_pos y) in
    let h : N * 2 ^ 32 ≡ (a + b) * D = joined (num x) (num y) (den x) (den y) a b (2 ^ 32) (cross x false a (2 ^ 32) X) (cross y s b (2 ^ 32) Y) in
    let g : N * 2 ^ 1074 ≡ (a + b) * 2 ^ 1042 * D = sym (mul_assoc N (2 ^ 32) (2 ^ 1042)) ∙ ap (λ (z : ℕ). z * 2 ^ 1042) h ∙ mul_right_comm (a + b) D (2 ^ 1042) in
    let v : Parts (round binary64 r.0 N D) r.0 (a + b) = rescale (round binary64 r.0 N D) r.0 N D (a + b) (2 ^ 32) P (sym h) (round_exact binary64 r.0 N D (a + b) 1042 P l (small (a + b) l) g) in
    let w : Parts (add binary64 x y) r.0 (a + b) = subst (λ (z : Float). Parts z r.0 (a + b)) (sym r.1) v in
    let f = value_finite (add binary64 x y) r.0 (a + b) (2 ^ 32) w in
    let i = value_finite x false a (2 ^ 32) X in
    subst (λ (z : Bool). Parts (add binary64 x y) z (a + b)) (sym f.1 ∙ add_clear binary64 x y i.0 i.1 o f.0) w

-- ---- whole ticks off a sum

pub record Took (n k : ℕ) (to : Position) : Type 0 where
  pub ticks : to.ticks ≡ n + k / 2 ^ 32
  pub part : Parts to.fraction false (k % 2 ^ 32)
  pub double : T (fits binary64 to.fraction)
  pub room : to.ticks ≤ 2 ^ 64 - 1

pub took : (n k : ℕ) (x : Float) (to : Position) → n ≤ 2 ^ 64 - 1 → T (fits binary64 x) → Parts x false k → k < 2 ^ 53 → taken_of n x ≡ accepted to → Took n k to
unfolding room_for
took n k x to N F v l e =
    let f = value_finite x false k (2 ^ 32) v in
    go (ltb (2 ^ 64 - 1) (n + ticks_of x)) (ltb-false (2 ^ 64 - 1) (n + ticks_of x)) (sym (taken_room n x N F f.0 f.1) ∙ e)
  where
    whole : ticks_of x ≡ k / 2 ^ 32
    whole = let t : ticks_of x ≡ min (k / 2 ^ 32) (2 ^ 65 - 1) = ticks_value x k (2 ^ 32) (pow_pos 32) F v in omega arith

    rest : Parts (fract_of x) false (k % 2 ^ 32)
    rest =
        let r = k % 2 ^ 32 in
        let q : r < 2 ^ 53 = omega arith in
        subst (λ (z : Float). Parts z false r) (sym (fract_value x k (2 ^ 32) (pow_pos 32) F v))
        (round_exact binary64 false r (2 ^ 32) r 1042 (pow_pos 32) q (small r q) (sym (mul_assoc r (2 ^ 1042) (2 ^ 32))))

    go : (b : Bool) → (b ≡ false → n + ticks_of x ≤ 2 ^ 64 - 1) → room n x b ≡ accepted to → Took n k to
    go true h i = absurd (false≢true cc)
    go false h i =
        let p : record { ticks = n + ticks_of x; fraction = fract_of x } ≡ to = cc in
        subst (Took n k) p (record { ticks = ap (λ (z : ℕ). n + z) whole; part = rest; double = sub-fits binary64 x (whole_of x); room = h refl })
