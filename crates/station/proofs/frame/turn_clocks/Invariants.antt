-- `turn_clocks` meets its contract: the turns that are left give the whole answer, and what is seen shows the clocks as
-- they stand. Assumes nothing.
use Rattle.station.proofs.frame.ClockTurns.{Left}
use Rattle.station.proofs.frame.turn_clocks.Given as goal

abbrev pub invariant-loop-i : goal.invariant-loop-i
invariant-loop-i l = Left l.fn.info l.dt l.keys l.fn.clocks l.clocks l.info l.reports l.i
