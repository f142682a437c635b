-- `values_of` meets its contract: the loop fills in what `Slot::value` gives of each slot. Assumes nothing.
use Rattle.modulator_table.specs.ModulatorTables.{slot_value}
use Rattle.station.proofs.Filled.{Filled}
use Rattle.station.proofs.values_of.Given as goal

abbrev pub invariant-loop-i : goal.invariant-loop-i
invariant-loop-i l = Filled slot_value l.slots l.values l.i
