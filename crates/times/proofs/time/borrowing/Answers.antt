-- `time::borrowing` is proved: its tests are those of the definition. The case of a tick that is taken is answered
-- here, so that an edit is refused by it. Assumes nothing.
use lib.Ieee.{of_bits}
use Rattle.times.proofs.time.borrowing.Goals as goal

pub returns-then-d : goal.returns-then-d
unfolding of_bits
returns-then-d c = rw (c.if-d.true, c.if-e.false) c.time_at-then-d.ensures
