-- `turn_modulators` meets its contract: the turns that are left give the whole answer, and what is seen shows the slots
-- as they stand. Assumes nothing.
use Rattle.station.proofs.frame.ModulatorTurns.{Left}
use Rattle.station.proofs.frame.turn_modulators.Given as goal

abbrev pub invariant-loop-i : goal.invariant-loop-i
invariant-loop-i l = Left l.fn.info l.dt l.keys l.fn.slots l.slots l.info l.i
