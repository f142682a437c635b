-- `doubles::sign_bit` is proved, by a law of `Fields` at the bits of x. Assumes nothing.
use mathlib.Core.Path.{sym, subst}
use lib.Dec.{T}
use Rattle.doubles.proofs.Fields.{sign_is}
use Rattle.doubles.proofs.sign_bit.Goals as goal

pub returns : goal.returns
returns c = sign_is c.args.x (subst T (sym c.well_formed.0.1) tt) c.bits.result c.bits.ensures
