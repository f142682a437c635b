-- `add` meets its contract: the first fault refuses, then a full table; else the slot that was found is taken. Assumes
-- nothing.
use mathlib.Core.Path.{sym, ap, ◌∙◌}
use Rattle.std.proofs.lemmas.Result.{err_from_is_err_and}
use Rattle.ids.specs.Keys.{told_room}
use Rattle.ids.proofs.Entries.{add_refused, add_full, add_placed}
use Rattle.values.specs.Speeds.{speed_tweens}
use Rattle.values.specs.Values.{value_faults}
use Rattle.clock_table.specs.ClockTables.{clock_table, add_clock_of}
use Rattle.clock_table.proofs.Clocks.add.Goals as goal

pub returns-in_err-accept : goal.returns-in_err-accept
unfolding add_clock_of
returns-in_err-accept c =
    let p = err_from_is_err_and c.from_residual.result c.from_residual.ensures.1 in
    rw (p.1, p.2) (add_refused clock_table c.args.self.now _ _ _ (rw (← c.faults.ensures) c.in_err-accept.ensures))

pub returns-in_default : goal.returns-in_default
unfolding add_clock_of
returns-in_default c =
    add_full clock_table c.args.self.now (value_faults speed_tweens c.args.speed) _ (rw (← c.faults.ensures) c.in_ok-accept.ensures)
    (ap told_room (sym c.in_default.is) ∙ c.free.ensures)

pub returns : goal.returns
unfolding add_clock_of
returns c =
    rw (c.taken.ensures, c.new.ensures)
    (add_placed clock_table c.args.self.now (value_faults speed_tweens c.args.speed) _ (rw (← c.faults.ensures) c.in_ok-accept.ensures) _ _
    (ap told_room (sym c.in-Some.is) ∙ c.free.ensures))
