-- `in_range` meets its contract: the two literals, read from their bits, are the bounds of the definition. Assumes
-- nothing.
use mathlib.Core.Path.{refl}
use lib.Ieee.{of_bits}
use Rattle.values.proofs.clock_speed.in_range.Goals as goal

pub returns : goal.returns
unfolding of_bits
returns c = refl
