-- `clock_infos` meets its contract: the loop fills in what `info` shows of each clock. Assumes nothing.
use native.Mathlib.Omega.{arith}
use mathlib.Core.Path.{refl}
use Rattle.station.proofs.Filled.{fill_none, fill_more, fill_all}
use Rattle.station.proofs.clock_infos.Goals as goal

pub loop-i-init : goal.loop-i-init
loop-i-init c = fill_none _ _ _ (omega arith) refl

pub loop-i-preserved : goal.loop-i-preserved
loop-i-preserved c = fill_more _ _ _ _ _ _ c.loop-i-test.true c.info.ensures c.loop-i.invariant

pub returns : goal.returns
returns c = fill_all _ _ _ _ c.loop-i-test.false c.loop-i.invariant
