-- `remove` meets its contract: the key of the slot found is freed, whatever clock is there. Assumes nothing.
use native.Mathlib.Omega.{arith}
use mathlib.Core.Path.{sym}
use Rattle.ids.proofs.Places.{read_at_lem, found_inside}
use Rattle.clock_table.specs.ClockTables.{remove_of}
use Rattle.clock_table.proofs.Slots.{at_rest}
use Rattle.clock_table.proofs.Clocks.remove.Goals as goal

pub returns : goal.returns
unfolding remove_of
returns c =
    rw (← c.in_ok-i.ensures, c.left.ensures)
    (sym (read_at_lem _ _ c.args.self.now.clocks c.in_ok-i.i at_rest (omega (arith, found_inside _ _ _ _ c.in_ok-i.ensures))))
