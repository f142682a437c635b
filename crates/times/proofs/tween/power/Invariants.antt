-- `power` meets its contract: at the loop's head p is the product of as many factors as are counted. Assumes nothing.
use mathlib.Core.Path.{◌≡◌}
use Rattle.times.specs.Easings.{power_of}
use Rattle.times.proofs.tween.power.Given as goal

abbrev pub invariant-loop : goal.invariant-loop
invariant-loop l = l.p ≡ power_of l.x l.counter
