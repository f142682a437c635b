-- `put` meets its contract: the first fault refuses, then a full table; else the slot that was found is taken. Assumes
-- nothing.
use mathlib.Core.Path.{sym, ap, ◌∙◌}
use Rattle.std.proofs.lemmas.Result.{err_from_is_err_and}
use Rattle.ids.specs.Keys.{told_room}
use Rattle.ids.proofs.Entries.{add_refused, add_full, add_placed}
use Rattle.modulator_table.specs.ModulatorTables.{modulator_table}
use Rattle.modulator_table.proofs.Modulators.put.Goals as goal

pub returns-in_err-accept : goal.returns-in_err-accept
returns-in_err-accept c =
    let p = err_from_is_err_and c.from_residual.result c.from_residual.ensures.1 in
    rw (p.1, p.2) (add_refused modulator_table c.args.self.now _ _ _ c.in_err-accept.ensures)

pub returns-in_default : goal.returns-in_default
returns-in_default c =
    add_full modulator_table c.args.self.now c.args.f _ c.in_ok-accept.ensures (ap told_room (sym c.in_default.is) ∙ c.free.ensures)

pub returns : goal.returns
returns c =
    rw c.taken.ensures
    (add_placed modulator_table c.args.self.now c.args.f _ c.in_ok-accept.ensures _ _ (ap told_room (sym c.in-Some.is) ∙ c.free.ensures))
