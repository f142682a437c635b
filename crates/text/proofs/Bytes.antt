-- Two lists that have the same bytes are one list, and the bytes from a place on. Assumes nothing.
use Prim.Native.Nat.{ℕ, ◌-◌}
use native.Mathlib.Omega.{arith}
use mathlib.Core.Path.{◌≡◌, refl, ap}
use mathlib.Core.Bool.{Bool, true, ◌&&◌}
use mathlib.Core.List.{List, [], ◌∷◌}
use borrow.Author.Tests.{eq-eqb}
use lib.Dec.{eqb}
use lib.ListN.{length, take, drop, length-drop}
use lib.Seq.{take_all}
use Rattle.std.specs.Cmp.Lexicographic.{pointwise}
use Rattle.text.specs.Words.{same_bytes}

-- what `==` of two slices says
pub same_pointwise : (a b : List ℕ) → pointwise eqb a b ≡ same_bytes a b
unfolding same_bytes
same_pointwise [] [] = refl
same_pointwise [] (b ∷ ys) = refl
same_pointwise (a ∷ xs) [] = refl
same_pointwise (a ∷ xs) (b ∷ ys) = ap (λ (t : Bool). eqb a b && t) (same_pointwise xs ys)

pub same_self : (a : List ℕ) → same_bytes a a ≡ true
unfolding same_bytes
same_self [] = refl
same_self (a ∷ xs) = rw (eq-eqb a a refl) (same_self xs)

-- the bytes from a place on, as the code takes them
pub onward : (l : List ℕ) (n : ℕ) → take (length l - n) (drop n l) ≡ drop n l
onward l n = take_all (length l - n) (drop n l) (omega (arith, length-drop n l))
