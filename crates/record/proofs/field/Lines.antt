-- What `strip_prefix` tells of a line and a name. Assumes nothing.
use Prim.Native.Nat.{ℕ}
use mathlib.Core.Path.{◌≡◌, sym, ◌∙◌}
use mathlib.Core.Bool.{Bool}
use mathlib.Core.List.{List}
use lib.Dec.{eqb}
use lib.ListN.{length, take}
use Rattle.std.specs.Cmp.Lexicographic.{pointwise}
use Rattle.text.proofs.Bytes.{same_pointwise}
use Rattle.record.specs.Fields.{begins}

-- whether the line begins with the name
pub begun : (name line : List ℕ) {t : Bool} → pointwise eqb (take (length name) line) name ≡ t → begins name line ≡ t
unfolding begins
begun name line e = sym (same_pointwise (take (length name) line) name) ∙ e
