-- The proof of the cycle of calls {try_add_f64, try_sub_f64}: what has a minus sign goes to the other with its
-- opposite, which has none, and the rest to `later` or `earlier`. Assumes nothing.
use mathlib.Core.Path.{sym, subst, ◌∙◌}
use Prim.Native.Nat.{ℕ, ◌<◌}
use lib.Ieee.{neg}
use Rattle.times.proofs.time.Opposite.{steps, steps_fall, add_opposite, sub_opposite, add_plain, sub_plain}
use Rattle.times.proofs.time.+try_add_f64_try_sub_f64.Goals as goal

pub try_add_f64-try_sub_f64-requires : goal.try_add_f64-try_sub_f64-requires
try_add_f64-try_sub_f64-requires t c =
    (subst (λ (j : ℕ). steps (neg c.args.x) < j) c.decreases (steps_fall c.args.x (sym c.sign_bit.ensures ∙ c.if-sign_bit.true)), tt)

pub try_add_f64-returns-then-sign_bit : goal.try_add_f64-returns-then-sign_bit
try_add_f64-returns-then-sign_bit t c = c.try_sub_f64.ensures ∙ add_opposite c.args.t c.args.x (sym c.sign_bit.ensures ∙ c.if-sign_bit.true)

pub try_add_f64-returns : goal.try_add_f64-returns
try_add_f64-returns t c = c.later.ensures ∙ add_plain c.args.t c.args.x (sym c.sign_bit.ensures ∙ c.if-sign_bit.false)

pub try_sub_f64-try_add_f64-requires : goal.try_sub_f64-try_add_f64-requires
try_sub_f64-try_add_f64-requires t c =
    (subst (λ (j : ℕ). steps (neg c.args.x) < j) c.decreases (steps_fall c.args.x (sym c.sign_bit.ensures ∙ c.if-sign_bit.true)), tt)

pub try_sub_f64-returns-then-sign_bit : goal.try_sub_f64-returns-then-sign_bit
try_sub_f64-returns-then-sign_bit t c = c.try_add_f64.ensures ∙ sub_opposite c.args.t c.args.x (sym c.sign_bit.ensures ∙ c.if-sign_bit.true)

pub try_sub_f64-returns : goal.try_sub_f64-returns
try_sub_f64-returns t c = c.earlier.ensures ∙ sub_plain c.args.t c.args.x (sym c.sign_bit.ensures ∙ c.if-sign_bit.false)
