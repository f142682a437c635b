-- `set_speed` meets its contract: the clock in the slot found has its speed set, or the set is refused. Assumes
-- nothing.
use Prim.Native.Nat.{◌<◌}
use native.Mathlib.Omega.{arith}
use mathlib.Core.Path.{sym, ◌∙◌}
use Rattle.ids.proofs.Places.{read_at_lem, found_inside}
use Rattle.clock_table.proofs.Slots.{speed_stored}
use Rattle.clock_table.specs.ClockTables.{set_speed_of}
use Rattle.clock_table.proofs.Clocks.set_speed.Goals as goal

pub returns : goal.returns
unfolding set_speed_of
returns c =
    let below : c.in_ok-i.i < 16 = omega (arith, found_inside _ _ _ _ c.in_ok-i.ensures) in
    rw (← c.in_ok-i.ensures)
    (speed_stored c.args.self.now c.in_ok-i.i _ c.args.target c.args.tween c.try_set.result _ c.try_set.ensures
    ∙ sym (read_at_lem _ _ c.args.self.now.clocks c.in_ok-i.i _ (omega arith)))
