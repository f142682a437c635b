-- `judge::span_faults` is proved: the flag is the comparison itself. Assumes nothing.
use Rattle.judge.proofs.span_faults.Goals as goal

pub returns : goal.returns
returns c = rw c.none-f.ensures
