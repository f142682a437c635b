-- `time::partial_cmp` is proved: its tests are those of the definition, and the orders of std those that it says.
-- Assumes nothing.
use mathlib.Core.Path.{◌≡◌}
use mathlib.Core.Bool.{Bool, true, false, not}
use Rattle.times.specs.Times.{order_of}
use Rattle.times.proofs.duration.Compares.{compare_eq}
use Rattle.times.proofs.time.Orders.{ticks_differ, fractions_same}
use Rattle.times.proofs.time.partial_cmp.Goals as goal

negated : (b : Bool) {r : Bool} → r ≡ not b → b ≡ not r
negated true e = rw e
negated false e = rw e

pub returns-then-ne : goal.returns-then-ne
unfolding order_of
returns-then-ne c = rw (negated _ c.ne.ensures, c.if-ne.true)

pub returns-then-a-b : goal.returns-then-a-b
unfolding order_of
returns-then-a-b c =
    rw (c.partial_cmp.ensures, negated _ c.ne.ensures, c.if-ne.false) (ticks_differ _ _ _ _ c.if-a-b.true)

pub returns : goal.returns
unfolding order_of
returns c =
    rw (c.partial_cmp-2.ensures, negated _ c.ne.ensures, c.if-ne.false, compare_eq _ _ c.if-a-b.false) (fractions_same _ _)
