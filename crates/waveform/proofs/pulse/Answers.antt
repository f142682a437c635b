-- `pulse` meets its contract: each return is the side of the test that led there. Assumes nothing.
use lib.Ieee.{of_bits, neg}
use Rattle.waveform.proofs.pulse.Goals as goal

pub returns : goal.returns
unfolding of_bits neg
returns c = rw c.if-phase-width.false
