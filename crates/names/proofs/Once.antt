-- No name stands twice in the table, so no row takes a word from another. Assumes nothing.
use Prim.Native.Nat.{ℕ}
use mathlib.Core.Path.{◌≡◌, refl}
use mathlib.Core.Bool.{Bool, true, not, ◌&&◌}
use mathlib.Core.List.{List, [], ◌∷◌}
use Rattle.text.specs.Words.{same_bytes}
use Rattle.names.specs.Names.{Row, rows}

-- whether no row has this name
unfoldable pub lacks : List ℕ → List Row → Bool
lacks n [] = true
lacks n (r ∷ rs) = not (same_bytes n r.name) && lacks n rs

unfoldable pub distinct : List Row → Bool
distinct [] = true
distinct (r ∷ rs) = lacks r.name rs && distinct rs

pub once : distinct rows ≡ true
unfolding same_bytes lacks distinct
once = refl
