-- `duration::nanos` is proved: each of its answers is a law of `Spans` at the bits of dt. Assumes nothing.
use mathlib.Core.Path.{sym, subst, ◌∙◌}
use native.Mathlib.Omega.{arith}
use lib.Dec.{T}
use Rattle.times.proofs.duration.Spans.{tiny, huge, not_above, below, too_long, in_all}
use Rattle.times.proofs.duration.nanos.Goals as goal

pub returns-then-e-lt992 : goal.returns-then-e-lt992
returns-then-e-lt992 c =
    sym (tiny c.args.dt (subst T (sym c.well_formed.0.1) tt) c.bits-b.result c.bits-b.ensures c.if-e-lt992.true)

pub returns-then-e-lt1023 : goal.returns-then-e-lt1023
returns-then-e-lt1023 c =
    below c.args.dt (subst T (sym c.well_formed.0.1) tt) c.bits-b.result c.bits-b.ensures c.rounded.result c.if-e-lt992.false c.if-e-lt1023.true (omega arith) c.rounded.ensures

pub returns-then-dt : goal.returns-then-dt
returns-then-dt c =
    sym (huge c.args.dt (subst T (sym c.well_formed.0.1) tt) c.bits-b.result c.bits-b.ensures c.if-e-gt1057.true c.if-dt.true)

pub returns-then-e-gt1057 : goal.returns-then-e-gt1057
returns-then-e-gt1057 c = sym (not_above c.args.dt c.if-dt.false)

pub returns-then-seconds-gt18446744073 : goal.returns-then-seconds-gt18446744073
returns-then-seconds-gt18446744073 c =
    too_long c.args.dt (subst T (sym c.well_formed.0.1) tt) c.bits-b.result c.bits-b.ensures c.if-e-lt1023.false c.if-e-gt1057.false c.if-seconds-gt18446744073.true

pub returns : goal.returns
returns c =
    c.saturating_add.ensures
    ∙ in_all c.args.dt (subst T (sym c.well_formed.0.1) tt) c.bits-b.result c.bits-b.ensures c.if-e-lt1023.false c.if-e-gt1057.false c.rounded-part.result c.rounded-part.ensures
