-- `to_u64` is proved: each of its answers is a law of `Unsigned` at the bits of x. Assumes nothing.
use mathlib.Core.Path.{sym, subst}
use lib.Dec.{T}
use Rattle.doubles.proofs.Unsigned.{tiny, huge, not_above, cut, shift}
use Rattle.doubles.proofs.to_u64.Goals as goal

pub returns-then-e-lt1023 : goal.returns-then-e-lt1023
returns-then-e-lt1023 c =
    sym (tiny c.args.x (subst T (sym c.well_formed.0.1) tt) c.bits-b.result c.bits-b.ensures c.if-e-lt1023.true)

pub returns-then-x : goal.returns-then-x
returns-then-x c =
    sym (huge c.args.x (subst T (sym c.well_formed.0.1) tt) c.bits-b.result c.bits-b.ensures c.if-e-gt1086.true c.if-x.true)

pub returns-then-e-gt1086 : goal.returns-then-e-gt1086
returns-then-e-gt1086 c = sym (not_above c.args.x c.if-x.false)

pub returns-then-e-lt1075 : goal.returns-then-e-lt1075
returns-then-e-lt1075 c =
    cut c.args.x (subst T (sym c.well_formed.0.1) tt) c.bits-b.result c.bits-b.ensures c.if-e-lt1023.false c.if-e-lt1075.true

pub returns : goal.returns
returns c =
    shift c.args.x (subst T (sym c.well_formed.0.1) tt) c.bits-b.result c.bits-b.ensures c.if-e-lt1075.false c.if-e-gt1086.false
