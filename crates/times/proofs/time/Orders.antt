-- The orders of std are those of the definitions: of two numbers that differ, of two doubles, and the one order that is
-- less. Assumes nothing.
use Prim.Native.Nat.{ℕ, ◌<◌}
use mathlib.Core.Path.{◌≡◌, refl}
use mathlib.Core.Bool.{Bool, true, false, cond}
use lib.Dec.{T}
use lib.Ieee.{Float, lt, eq}
use borrow.Author.Tests.{lt-ltb, le-ltb, ne_eqb}
use native.Mathlib.Omega.{arith}
use Rattle.std.specs.Prelude.{Option, None, Some}
use Rattle.std.specs.Option.{option_eq}
use Rattle.std.specs.Ordering.{nat_cmp, float_partial_cmp}
use Rattle.std.specs.declared.cmp.Ordering.{Ordering}
use Rattle.std.specs.declared.cmp.Ordering.TheVariants.{Less, Equal, Greater}
use Rattle.std.proofs.lemmas.Float.{eq_flip, eq-not_lt}
use Rattle.times.specs.Times.{order_fractions, order_ticks, is_less}
use Rattle.times.proofs.duration.Compares.{compare_lt, compare_gt}
use Rattle.times.proofs.time.Places.{three}
use Prim.Native.Nat as nat

-- of numbers that differ
pub ticks_differ : (n m : ℕ) (f g : Float) → (n ≡ m → ⊥) → Some (nat_cmp n m) ≡ order_ticks (nat.compare n m) f g
ticks_differ n m f g d =
    three n m
    (λ h. rw (lt-ltb n m h, compare_lt n m h))
    (λ h. absurd (d h))
    (λ h. rw (le-ltb n m (omega arith), ne_eqb n m d, compare_gt n m h))

-- whether two doubles are equal may be asked before whether the first is the larger one, since it is not both
pub fractions_same : (f g : Float) → float_partial_cmp f g ≡ order_fractions f g
fractions_same f g = go (lt f g) (eq f g) (lt g f) (λ e. eq-not_lt g f (eq_flip f g e))
  where
    go : (a e b : Bool) → (T e → T b → ⊥) → cond a (Some Less) (cond e (Some Equal) (cond b (Some Greater) None)) ≡ cond a (Some Less) (cond b (Some Greater) (cond e (Some Equal) None))
    go true e b n = refl
    go false true true n = absurd (n tt tt)
    go false true false n = refl
    go false false b n = refl

-- where E is the test of std, it tells the three orders apart
pub asks_less : (E : Ordering → Ordering → Bool) → E Less Less ≡ true → E Equal Less ≡ false → E Greater Less ≡ false → (o : Option Ordering) → option_eq E o (Some Less) ≡ is_less o
asks_less E l e g None = refl
asks_less E l e g (Some Less) = l
asks_less E l e g (Some Equal) = e
asks_less E l e g (Some Greater) = g
