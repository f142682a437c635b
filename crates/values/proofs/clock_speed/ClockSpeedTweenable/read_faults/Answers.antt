-- `read_faults` meets its contract: it tests what `read_in` and `is_finite` give, against the definition's bound, and
-- sets no other flag. Assumes nothing.
use lib.Ieee.{of_bits}
use Rattle.values.proofs.clock_speed.ClockSpeedTweenable.read_faults.Goals as goal

pub returns : goal.returns
unfolding of_bits
returns c = rw (c.none-f.ensures, c.is_finite.ensures, c.read_in-x.ensures)
