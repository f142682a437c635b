-- `turns` meets its contract: the literal is TAU. Assumes nothing.
use mathlib.Core.Path.{refl}
use lib.Ieee.{of_bits}
use Rattle.modulator.proofs.lfo.turns.Goals as goal

pub returns : goal.returns
unfolding of_bits
returns c = refl
