-- `remove` meets its contract: the key of the slot found is freed. Assumes nothing.
use native.Mathlib.Omega.{arith}
use mathlib.Core.Path.{sym}
use Rattle.doubles.specs.Doubles.{zero_f}
use Rattle.ids.proofs.Places.{read_at_lem, found_inside}
use Rattle.modulator.specs.Tweeners.{new_tweener}
use Rattle.modulator_table.specs.declared.Modulator.TheVariants.{OfTweener}
use Rattle.modulator_table.specs.ModulatorTables.{slot_of, remove_of}
use Rattle.modulator_table.proofs.Modulators.remove.Goals as goal

pub returns : goal.returns
unfolding remove_of
returns c =
    rw (← c.in_ok-i.ensures, c.left.ensures)
    (sym (read_at_lem _ _ c.args.self.now.slots c.in_ok-i.i (slot_of (OfTweener (new_tweener zero_f))) (omega (arith, found_inside _ _ _ _ c.in_ok-i.ensures))))
