-- What stands in a slot of a table. Assumes nothing.
use Rattle.std.specs.Prelude.{ℕ, zero, suc, List, [], ◌∷◌}

-- what f says of the entry in slot i, and `none` past the last slot
unfoldable pub read_at : {A B : Type 0} → B → (A → B) → List A → ℕ → B
read_at none f [] i = none
read_at none f (x ∷ xs) zero = f x
read_at none f (x ∷ xs) (suc i) = read_at none f xs i
