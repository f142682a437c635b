-- `ticks::take_ticks` is proved: a sum with no whole tick stays, from 2 ^ 64 on the sum alone passes 2 ^ 64 - 1, and
-- between them `more_ticks` counts what the definition counts. Assumes nothing.
use mathlib.Core.Path.{◌≡◌, sym, ap, ◌∙◌, subst}
use native.Mathlib.Omega.{arith}
use lib.Dec.{T}
use lib.IntN.{pos}
use mathlib.Core.Bool.{false}
use Prim.Native.Nat.{ℕ}
use lib.Ieee.{Float, fin, binary64, fits, le, of_bits, to_unsigned}
use Rattle.doubles.specs.Doubles.{one_f, fract_of}
use Rattle.judge.specs.Answer.{Answer}
use Rattle.judge.proofs.Judged.{handed_on}
use Rattle.ticks.specs.WholeTicks.{more_of, by_count, room_for, taken_of}
use Rattle.ticks.proofs.Sums.{taken_part, taken_whole, taken_full, top_bits, top_ticks}
use Rattle.ticks.proofs.take_ticks.Goals as goal

-- what `fract` and `more_ticks` answer is the definition's
counted : (n : ℕ) (x f : Float) (u : ℕ) (a : Answer ℕ) → T (fits binary64 x) → T (le one_f x) → le (fin false 1 (pos 64)) x ≡ false → f ≡ fract_of x → u ≡ to_unsigned 64 x → a ≡ more_of n u → by_count f a ≡ taken_of n x
unfolding room_for
counted n x f u a h one below fs us e =
    ap (λ (z : Float). by_count z a) fs
    ∙ ap (by_count (fract_of x)) (e ∙ ap (more_of n) (us ∙ top_bits x h below))
    ∙ sym (taken_whole n x one)

pub returns-then-not-sum : goal.returns-then-not-sum
unfolding of_bits
returns-then-not-sum c = sym (taken_part c.args.ticks c.args.sum c.if-not-sum.true)

pub returns-then-sum : goal.returns-then-sum
unfolding of_bits
returns-then-sum c =
    let l = top_ticks c.args.sum (subst T (sym c.well_formed.1.0.1) tt) c.if-sum.true in
    sym (taken_full c.args.ticks c.args.sum (subst T (sym c.if-not-sum.false) tt) (omega (arith, l)))

pub returns-in_err-more_ticks : goal.returns-in_err-more_ticks
unfolding of_bits
returns-in_err-more_ticks c =
    handed_on _ _ c.from_residual.ensures
    ∙ counted c.args.ticks c.args.sum _ _ _ (subst T (sym c.well_formed.1.0.1) tt) (subst T (sym c.if-not-sum.false) tt) c.if-sum.false
    c.fract-fraction.ensures c.to_u64.ensures c.in_err-more_ticks.ensures

pub returns : goal.returns
unfolding of_bits
returns c =
    counted c.args.ticks c.args.sum _ _ _ (subst T (sym c.well_formed.1.0.1) tt) (subst T (sym c.if-not-sum.false) tt) c.if-sum.false
    c.fract-fraction.ensures c.to_u64.ensures c.in_ok-more_ticks.ensures
