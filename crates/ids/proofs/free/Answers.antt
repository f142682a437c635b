-- `ids::free` meets its contract: the place of the first free key is that of the definition. Assumes nothing.
use native.Mathlib.Omega.{arith}
use Rattle.ids.specs.Keys.{left_at}
use Rattle.ids.proofs.Searches.{none_open, open_below, open_room}
use Rattle.ids.proofs.free.Goals as goal

pub returns-in_err-slot : goal.returns-in_err-slot
returns-in_err-slot c = rw c.from_residual.ensures (none_open _ c.open.ensures c.in_err-slot.was)

pub overflow_add-result : goal.overflow_add-result
overflow_add-result c = omega (arith, open_below c.args.keys.now c.open.ensures (left_at 0) c.in_ok-slot.slot c.in_ok-slot.was)

pub returns : goal.returns
returns c = open_room _ c.open.ensures (left_at 0) _ c.in_ok-slot.was
