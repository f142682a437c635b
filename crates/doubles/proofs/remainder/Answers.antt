-- `remainder` is proved: what is not finite by its kind, and the rest by the bits. Assumes nothing.
use mathlib.Core.Path.{sym, ap, subst, ◌∙◌}
use lib.Dec.{T}
use lib.Ieee.{Float, binary64, rem, of_bits}
use Rattle.doubles.proofs.Fields.{differs, of_bits_lem}
use Rattle.doubles.proofs.Remainders.{no_number, rem_first, rem_second, rem_whole, bounded}
use Rattle.doubles.proofs.remainder.Goals as goal

pub returns-then-not-is_finite : goal.returns-then-not-is_finite
returns-then-not-is_finite c = no_number ∙ sym (rem_first c.args.x c.args.y (sym c.is_finite.ensures ∙ c.if-not-is_finite.true))

pub returns-then-y : goal.returns-then-y
returns-then-y c = no_number ∙ sym (rem_second c.args.x c.args.y (sym c.is_finite.ensures ∙ c.if-not-is_finite.false) (differs c.args.y c.if-y.true))

pub returns-then-not-is_finite-2 : goal.returns-then-not-is_finite-2
returns-then-not-is_finite-2 c =
    rem_whole c.args.x c.args.y (sym c.is_finite.ensures ∙ c.if-not-is_finite.false) c.if-y.false (sym c.is_finite-2.ensures ∙ c.if-not-is_finite-2.true)

pub remainder_of-requires-clause-first : goal.remainder_of-requires-clause-first
remainder_of-requires-clause-first c =
    bounded c.args.x (subst T (sym c.well_formed.0.1) tt) c.bits.result c.bits.ensures (sym c.is_finite.ensures ∙ c.if-not-is_finite.false)

pub remainder_of-requires-clause-second : goal.remainder_of-requires-clause-second
remainder_of-requires-clause-second c =
    bounded c.args.y (subst T (sym c.well_formed.1.0.1) tt) c.bits-2.result c.bits-2.ensures (sym c.is_finite-2.ensures ∙ c.if-not-is_finite-2.false)

pub returns : goal.returns
returns c =
    c.remainder_of.ensures
    ∙ ap (λ (i : Float). rem binary64 i (of_bits binary64 c.bits-2.result)) (of_bits_lem c.args.x (subst T (sym c.well_formed.0.1) tt) c.bits.result c.bits.ensures)
    ∙ ap (rem binary64 c.args.x) (of_bits_lem c.args.y (subst T (sym c.well_formed.1.0.1) tt) c.bits-2.result c.bits-2.ensures)
