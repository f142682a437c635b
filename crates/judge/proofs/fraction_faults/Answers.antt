-- `judge::fraction_faults` is proved: each part of the flag is what its callee ensures. Assumes nothing.
use lib.Ieee.{of_bits}
use Rattle.judge.proofs.fraction_faults.Goals as goal

pub returns : goal.returns
unfolding of_bits
returns c = rw (c.none-f.ensures, c.sign_bit.ensures)
