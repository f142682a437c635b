-- `doubles::whole` is proved: each of its three answers is a law of `Cut` at the bits of x. Assumes nothing.
use mathlib.Core.Path.{sym, ◌∙◌, subst}
use lib.Dec.{T}
use Rattle.doubles.proofs.Cut.{whole_small, whole_middle, whole_large}
use Rattle.doubles.proofs.whole.Goals as goal

pub returns-then-e-lt1023 : goal.returns-then-e-lt1023
returns-then-e-lt1023 c =
    c.of_bits.ensures ∙ whole_small c.args.x (subst T (sym c.well_formed.0.1) tt) c.bits-b.result c.bits-b.ensures c.if-e-lt1023.true

pub returns-then-e-lt1075 : goal.returns-then-e-lt1075
returns-then-e-lt1075 c =
    c.of_bits-then-e-lt1075.ensures ∙ whole_middle c.args.x (subst T (sym c.well_formed.0.1) tt) c.bits-b.result c.bits-b.ensures c.if-e-lt1023.false c.if-e-lt1075.true

pub returns : goal.returns
returns c =
    whole_large c.args.x (subst T (sym c.well_formed.0.1) tt) c.bits-b.result c.bits-b.ensures c.if-e-lt1075.false
