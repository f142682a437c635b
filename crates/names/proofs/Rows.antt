-- The table that the code has is the definition's. Assumes nothing.
use mathlib.Core.Path.{◌≡◌, refl}
use Rattle.std.specs.Prelude.{map}
use Rattle.names.specs.Names.{names, rows}
use Rattle.names.specs.declared.TheConstants.{CALLS}

pub same_rows : map (λ p. names p.0.now p.1) CALLS ≡ rows
same_rows = refl
