-- Demand 1: the order in which the conditions are asked, and when one decides. 01, "Refusal numbers". RULES, order.
-- Assumes nothing.
use Rattle.std.specs.Prelude.{ℕ, ◌≡◌, refl, Bool, true, false, ◌||◌, cond, List, [], ◌∷◌, map, eqb}
use Rattle.laws.specs.SoundStation.{All}
use Rattle.judge.specs.Judge.{Conditions, of_arguments, no_faults, Judged, in_order}

-- every number, as the one list of the crate `judge` asks them: RULES, order
abbrev pub order : List ℕ
order = map (λ j. j.number) (in_order (of_arguments no_faults))

-- The same in digits, written from 01 and 02 and not from `judge`: so the names, the numbers and the list cannot all be
-- wrong together.
pub counted : order ≡ 7 ∷ 15 ∷ 1 ∷ 2 ∷ 3 ∷ 4 ∷ 5 ∷ 6 ∷ 8 ∷ 9 ∷ 10 ∷ 11 ∷ 12 ∷ []
counted = refl

-- whether the condition of a number holds
abbrev pub holds_in : List Judged → ℕ → Bool
holds_in [] n = false
holds_in (j ∷ js) n = cond (eqb j.number n) j.holds (holds_in js n)

abbrev pub holds : Conditions → ℕ → Bool
holds c n = holds_in (in_order c) n

-- the first of these numbers whose condition holds, and 0 where none does
unfoldable pub first_in : List ℕ → (ℕ → Bool) → ℕ
first_in [] f = 0
first_in (n ∷ ns) f = cond (f n) n (first_in ns f)

-- those that stand before n
unfoldable pub before : ℕ → List ℕ → List ℕ
before n [] = []
before n (m ∷ ms) = cond (eqb m n) [] (m ∷ before n ms)

unfoldable pub among : ℕ → List ℕ → Bool
among n [] = false
among n (m ∷ ms) = eqb m n || among n ms

-- a number decides where its own condition holds and none before it does: RULES, exact-refusals
pub record Decides (c : Conditions) (n : ℕ) : Type 0 where
  pub own : holds c n ≡ true
  pub earlier : All (λ m. holds c m ≡ false) (before n order)
