-- `doubles::fract` is proved: what it takes off is the whole part. Assumes nothing.
use mathlib.Core.Path.{ap}
use lib.Ieee.{binary64, sub}
use Rattle.doubles.proofs.fract.Goals as goal

pub returns : goal.returns
returns c = ap (sub binary64 c.args.x) c.whole.ensures
