-- `new` meets its contract: each slot holds what `Clock::new` gives. Assumes nothing.
use lib.Ieee.{of_bits}
use Rattle.clock_table.proofs.Clocks.new.Goals as goal

pub returns : goal.returns
unfolding of_bits
returns c = rw (c.left.ensures, c.new.ensures)
