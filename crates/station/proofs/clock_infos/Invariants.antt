-- `clock_infos` meets its contract: the loop fills in what `info` shows of each clock. Assumes nothing.
use Rattle.clock.specs.OneClock.{info_of}
use Rattle.station.proofs.Filled.{Filled}
use Rattle.station.proofs.clock_infos.Given as goal

abbrev pub invariant-loop-i : goal.invariant-loop-i
invariant-loop-i l = Filled info_of l.clocks l.infos l.i
