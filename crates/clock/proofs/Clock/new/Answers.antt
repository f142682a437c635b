-- `Clock::new` meets its contract: its speed is what `Parameter::new` gives. Assumes nothing.
use lib.Ieee.{of_bits}
use Rattle.clock.proofs.Clock.new.Goals as goal

pub returns : goal.returns
unfolding of_bits
returns c = rw c.new.ensures
