-- `doubles::ceil` is proved: each answer is a law of `Rest`. Assumes nothing.
use mathlib.Core.Path.{sym, subst, ap, ◌∙◌}
use lib.Dec.{T}
use lib.Ieee.{Float, binary64, add, lt, of_bits}
use Rattle.doubles.proofs.Rest.{ceil_up, ceil_same}
use Rattle.doubles.proofs.ceil.Goals as goal

pub returns-then-w-x : goal.returns-then-w-x
returns-then-w-x c =
    ap (λ (w : Float). add binary64 w (of_bits binary64 0x3ff0_0000_0000_0000)) c.whole-w.ensures
    ∙ ceil_up c.args.x (subst T (sym c.well_formed.0.1) tt) (ap (λ (w : Float). lt w c.args.x) (sym c.whole-w.ensures) ∙ c.if-w-x.true)

pub returns : goal.returns
returns c =
    c.whole-w.ensures ∙ ceil_same c.args.x (subst T (sym c.well_formed.0.1) tt) (ap (λ (w : Float). lt w c.args.x) (sym c.whole-w.ensures) ∙ c.if-w-x.false)
