-- `text::decimal` is proved: no byte, one byte, a zero in front and anything else are the definition's own cases.
-- Assumes nothing.
use native.Mathlib.Omega.{arith}
use mathlib.Core.Path.{sym, ◌∙◌}
use borrow.Author.Tests.{eqb-true}
use lib.ListN.{length}
use Rattle.text.proofs.Digits.{none, single, zero_first, no_zero_first, some_byte}
use Rattle.text.proofs.decimal.Goals.{else-s-gt1-via-then-s-gt1+else-s-eq48, else-s-gt1-via-else-s-gt1}
use Rattle.text.proofs.decimal.Goals as goal

pub returns-then-is_empty : goal.returns-then-is_empty
returns-then-is_empty c = none c.args.s.now (eqb-true (length c.args.s.now) 0 (sym c.is_empty.ensures ∙ c.if-is_empty.true))

pub returns-then-s-eq48 : goal.returns-then-s-eq48
returns-then-s-eq48 c = zero_first c.args.s.now (λ e. omega arith) (λ e. omega arith) c.if-s-eq48.true

pub returns : goal.returns
returns c =
    let some = some_byte c.args.s.now (sym c.is_empty.ensures ∙ c.if-is_empty.false) in
    elim c.else-s-gt1.branch [
      | else-s-gt1-via-then-s-gt1+else-s-eq48 w ↦ c.spelled.ensures ∙ no_zero_first c.args.s.now some (λ e. omega (arith, w.if-s-gt1.true)) w.if-s-eq48.false
      | else-s-gt1-via-else-s-gt1 w ↦ c.spelled.ensures ∙ single c.args.s.now (omega (arith, w.if-s-gt1.false, some))
    ]
