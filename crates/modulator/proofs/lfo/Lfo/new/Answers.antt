-- `Lfo::new` meets its contract: each parameter is what `Parameter::new` gives at its default, and the phase what
-- `turns` gives. Assumes nothing.
use lib.Ieee.{of_bits}
use Rattle.modulator.proofs.lfo.Lfo.new.Goals as goal

pub returns : goal.returns
unfolding of_bits
returns c = rw (c.new.ensures, c.new-2.ensures, c.new-3.ensures, c.turns.ensures)
