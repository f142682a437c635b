-- `in_out` meets its contract: each return is the side of the test that led there. Assumes nothing.
use lib.Ieee.{of_bits}
use Rattle.times.specs.Easings.{in_out_of}
use Rattle.times.proofs.tween.in_out.Goals as goal

pub returns-then-y : goal.returns-then-y
unfolding in_out_of of_bits
returns-then-y c = rw (c.if-y.true, c.power.ensures)

pub returns : goal.returns
unfolding in_out_of of_bits
returns c = rw (c.if-y.false, c.power-2.ensures)
