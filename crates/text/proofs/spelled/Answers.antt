-- `text::spelled` is proved. The loop's invariant: 64 bits hold the number so far, and reading on behind it gives the
-- whole answer. The answer at the end is searched for with that bound at hand, so that a body which asks more of the
-- number is proved or refused by what it asks. Assumes nothing.
use native.Mathlib.Omega.{arith}
use Prim.Native.Nat.{◌-◌, ◌^◌}
use mathlib.Core.Path.{refl, ◌∙◌}
use borrow.Author.Tests.{le-leb}
use Rattle.std.proofs.Common.{rules, tests}
use Rattle.text.proofs.Digits.{no_digit, goes, too_large, no_room_lem, ends}
use Rattle.text.proofs.spelled.Goals as goal

pub returns-in_err-d : goal.returns-in_err-d
returns-in_err-d c = c.from_residual.ensures ∙ no_digit _ _ _ _ c.loop-b-test.true c.in_err-d.ensures ∙ c.loop-b.invariant.1

pub returns-in_err-checked_mul : goal.returns-in_err-checked_mul
returns-in_err-checked_mul c =
    c.from_residual-in_err-checked_mul.ensures ∙ no_room_lem _ _ _ _ c.loop-b-test.true (omega (arith, c.in_err-checked_mul.ensures)) ∙ c.loop-b.invariant.1

pub returns-in_err-v : goal.returns-in_err-v
returns-in_err-v c =
    c.from_residual-in_err-v.ensures ∙ too_large _ _ _ _ c.loop-b-test.true _ c.in_ok-d.ensures (omega (arith, c.in_err-v.ensures, c.in_ok-checked_mul.ensures)) ∙ c.loop-b.invariant.1

pub loop-b-init : goal.loop-b-init
loop-b-init c = (omega arith, refl)

pub loop-b-preserved : goal.loop-b-preserved
loop-b-preserved c = (
  omega (arith, c.in_ok-v.ensures),
  rw (c.in_ok-v.ensures.1, c.in_ok-checked_mul.ensures.1) (goes _ _ _ _ c.loop-b-test.true _ c.in_ok-d.ensures (omega (arith, c.in_ok-v.ensures, c.in_ok-checked_mul.ensures)) ∙ c.loop-b.invariant.1),
)

pub returns : goal.returns
returns c =
    search (
      rules,
      tests,
      le-leb c.loop-b.v (2 ^ 64 - 1) (omega (arith, c.loop-b.invariant.0)),
      ends c.args.base c.args.s.now c.loop-b.v c.loop-b.b-index c.loop-b-test.false ∙ c.loop-b.invariant.1,
    )
