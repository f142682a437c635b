-- `apply` meets its contract: each arm is the case of the definition that its variant names. Assumes nothing.
use lib.Ieee.{of_bits}
use Rattle.times.specs.Easings.{apply_of}
use Rattle.times.proofs.tween.apply.Goals as goal

pub returns-in-Linear : goal.returns-in-Linear
unfolding apply_of
returns-in-Linear c = rw c.in-Linear.is

pub returns-in-InPowi : goal.returns-in-InPowi
unfolding apply_of
returns-in-InPowi c = rw (c.power.ensures, c.in-InPowi.is)

pub returns-in-OutPowi : goal.returns-in-OutPowi
unfolding apply_of of_bits
returns-in-OutPowi c = rw (c.power-in-OutPowi.ensures, c.in-OutPowi.is)

pub returns-in-InOutPowi : goal.returns-in-InOutPowi
unfolding apply_of
returns-in-InOutPowi c = rw (c.in_out.ensures, c.in-InOutPowi.is)
