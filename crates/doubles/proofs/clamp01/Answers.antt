-- `doubles::clamp01` is proved: each answer is what `cond` picks where the tests are as they were found. Assumes
-- nothing.
use lib.Ieee.{of_bits}
use Rattle.doubles.proofs.clamp01.Goals as goal

pub returns-then-x : goal.returns-then-x
unfolding of_bits
returns-then-x c = rw c.if-x.true

pub returns-then-x-2 : goal.returns-then-x-2
unfolding of_bits
returns-then-x-2 c = rw (c.if-x.false, c.if-x-2.true)

pub returns : goal.returns
unfolding of_bits
returns c = rw (c.if-x.false, c.if-x-2.false)
