-- `remainder_of` is proved: 0 leaves no number, a number with a larger last digit is larger, and else digits are taken
-- one by one. Assumes nothing.
use Prim.Native.Nat.{ℕ, ◌<◌}
use native.Mathlib.Omega.{arith}
use mathlib.Core.Path.{sym, subst, ◌∙◌}
use Rattle.doubles.proofs.Remainders.{no_number, by_zero, by_short, by_long}
use Rattle.doubles.proofs.remainder_of.Goals as goal

pub returns-then-n-eq0 : goal.returns-then-n-eq0
returns-then-n-eq0 c = no_number ∙ by_zero c.args.b c.args.c (omega arith) c.requires.first c.requires.second (sym c.digits-n.ensures ∙ c.if-n-eq0.true)

pub returns-then-p-q : goal.returns-then-p-q
returns-then-p-q c =
    rw (c.power.ensures, c.digits-m.ensures, c.place-p.ensures)
    (by_short c.args.b c.args.c (omega arith) c.requires.first c.requires.second (omega (arith, c.place-p.ensures, c.place-q.ensures, c.if-p-q.true)))

pub returns : goal.returns
returns c =
    let some : 0 < c.digits-n.result = omega (arith, c.if-n-eq0.false) in
    rw (c.power-2.ensures, c.place-q.ensures)
    (by_long c.args.b c.args.c (omega arith) c.requires.first c.requires.second c.reduced.result
    (omega (arith, c.place-p.ensures, c.place-q.ensures, c.if-p-q.false))
    (subst (λ (i : ℕ). 0 < i) c.digits-n.ensures some)
    (rw (c.digits-m.ensures, c.place-p.ensures, c.place-q.ensures, c.digits-n.ensures) at c.reduced.ensures))
