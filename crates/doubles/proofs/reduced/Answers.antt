-- `reduced` is proved: a turn doubles what is left and takes d off it. Assumes nothing.
use native.Mathlib.Nat.{mod-lt, mul-one}
use Rattle.doubles.proofs.Remainders.{twice}
use Rattle.doubles.proofs.reduced.Goals as goal

pub loop-i-init : goal.loop-i-init
loop-i-init c = (mod-lt c.args.n c.requires.some, rw (mul-one c.args.n))

pub loop-i-preserved : goal.loop-i-preserved
loop-i-preserved c = (mod-lt _ c.requires.some, twice c.args.n c.loop-i._i c.args.d c.loop-i.r c.loop-i.invariant.1)
