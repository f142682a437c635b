-- `doubles::abs` is proved, by a law of `Fields` at the bits of x. Assumes nothing.
use mathlib.Core.Path.{sym, subst, ◌∙◌}
use lib.Dec.{T}
use Rattle.doubles.proofs.Fields.{abs_is}
use Rattle.doubles.proofs.abs.Goals as goal

pub returns : goal.returns
returns c =
    c.of_bits.ensures ∙ abs_is c.args.x (subst T (sym c.well_formed.0.1) tt) c.bits.result c.bits.ensures
