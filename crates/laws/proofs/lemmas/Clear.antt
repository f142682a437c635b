-- A fraction that is not refused keeps its sign clear: 0.0 or more plus what is not below 0 has its sign clear
-- (0.0 + −0.0 is 0.0), and so has the fraction that whole ticks leave of it. RULES, whole-ticks. Assumes nothing.
use Prim.Native.Nat.{ℕ, ◌+◌, ◌-◌, ◌*◌, ◌%◌, ◌^◌, ◌≤◌}
use native.Mathlib.Omega.{arith}
use mathlib.Core.Path.{◌≡◌, refl, ap, ◌∙◌, subst}
use mathlib.Core.Logic.{inl, inr}
use mathlib.Core.Bool.{Bool, true, false, not, cond, true≢false, false≢true}
use lib.Dec.{T}
use lib.Ieee.{Float, nan, inf, fin, Format, binary64, low, up, down, round, sum, add, le, lt, fits}
use lib.Ieee.Exact.{HasValue}
use lib.Ieee.Scale.{grid, finite, round_val, round_under}
use borrow.Author.Tests.{le-ltb}
use Rattle.doubles.specs.Doubles.{zero_f, one_f, sign_of, fract_of}
use Rattle.doubles.proofs.Rest.{fract_rest}
use Rattle.doubles.proofs.Unit.{Side, On, no_times}
use Rattle.judge.specs.Judge.{bad_fraction}
use Rattle.values.proofs.clock_speed.Rates.{neither}
use Rattle.laws.proofs.lemmas.Accepted.{plus_least}

-- ---- what is asked of a fraction

pub fraction_of : (g : Float) → sign_of g ≡ false → lt g one_f ≡ true → bad_fraction g ≡ false
fraction_of g s l = rw (s, l)

from_zero : (g : Float) → sign_of g ≡ false → lt g one_f ≡ true → T (le zero_f g)
unfolding lt
from_zero nan s l = absurd (false≢true l)
from_zero (inf true) s l = absurd (true≢false s)
from_zero (inf false) s l = absurd (false≢true l)
from_zero (fin true m e) s l = absurd (true≢false s)
from_zero (fin false m e) s l = plus_least m e

-- 0.0 or more, below 1, and not −0.0
pub fraction_range : (g : Float) → bad_fraction g ≡ false → (sign_of g ≡ false) × T (le zero_f g) × (lt g one_f ≡ true)
fraction_range g h = let b = neither (sign_of g) (not (lt g one_f)) h in let l = under (lt g one_f) b.1 in (b.0, from_zero g b.0 l, l)
  where
    under : (b : Bool) → not b ≡ false → b ≡ true
    under true e = refl
    under false e = absurd (true≢false e)

-- ---- sums and fractions

round_clear : (f : Format) (n d : ℕ) → T (finite (round f false n d)) → sign_of (round f false n d) ≡ false
round_clear f n d H = go (round f false n d) (round_val f n d (round_under f n d H))
  where
    go : (x : Float) → HasValue x false (grid f n d) (2 ^ low f) → sign_of x ≡ false
    go nan v = absurd v
    go (inf s) v = absurd v
    go (fin s m e) v = v.0

-- a sum of a size with no minus sign and one that has none or is 0
sum_clear : (f : Format) (t : Bool) (a b c : ℕ) → Side false t b → (n : ℕ) × (sum f false a t b c ≡ round f false n c)
unfolding sum
sum_clear f false a b c h = (a + b, refl)
sum_clear f true a b c (inl p) = absurd (true≢false p)
sum_clear f true a b c (inr z) = let l : b ≤ a = omega arith in (a - b, ap (λ (y : Bool). cond y (round f true (b - a) c) (round f false (a - b) c)) (le-ltb a b l))

pub add_clear : (f : Format) (x y : Float) → T (finite x) → sign_of x ≡ false → On false y → T (finite (add f x y)) → sign_of (add f x y) ≡ false
unfolding add
add_clear f nan y X s k H = absurd X
add_clear f (inf u) y X s k H = absurd X
add_clear f (fin true m e) y X s k H = absurd (true≢false s)
add_clear f (fin false m e) nan X s k H = absurd k
add_clear f (fin false m e) (inf t) X s k H = absurd k
add_clear f (fin false m e) (fin t n d) X s k H =
    let r = sum_clear f t (m * up e * down d) (n * up d * down e) (down e * down d) (scaled k) in
    ap sign_of r.1 ∙ round_clear f r.0 (down e * down d) (subst (λ (z : Float). T (finite z)) r.1 H)
  where
    scaled : Side false t n → Side false t (n * up d * down e)
    scaled (inl p) = inl p
    scaled (inr z) = inr (no_times (n * up d) (down e) (no_times n (up d) z))

pub fract_clear : (x : Float) → T (fits binary64 x) → T (finite x) → sign_of x ≡ false → T (finite (fract_of x)) → sign_of (fract_of x) ≡ false
fract_clear nan F X s H = absurd X
fract_clear (inf t) F X s H = absurd X
fract_clear (fin true m e) F X s H = absurd (true≢false s)
fract_clear (fin false m e) F X s H =
    let is : fract_of (fin false m e) ≡ round binary64 false (m * up e % down e) (down e) = fract_rest false m e F in
    ap sign_of is ∙ round_clear binary64 (m * up e % down e) (down e) (subst (λ (z : Float). T (finite z)) is H)
