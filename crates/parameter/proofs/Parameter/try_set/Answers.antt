-- `try_set` meets its contract: it gives the first of the faults with the parameter as it was, or what `set` leaves.
-- Assumes nothing.
use mathlib.Core.Path.{ap, ◌∙◌}
use Rattle.judge.proofs.Judged.{joined}
use Rattle.parameter.specs.Parameters.{try_set_of}
use Rattle.parameter.proofs.Left.{set_refused, set_done}
use Rattle.parameter.proofs.Parameter.try_set.Goals as goal

pub returns-in_err-accept : goal.returns-in_err-accept
unfolding try_set_of
returns-in_err-accept g c =
    set_refused _ (joined _ _ c.and.ensures c.target_faults.ensures
    (c.read_faults-readable.ensures ∙ ap (g.T.Tweenable.tweens.unreadable c.args.self.now.raw) c.target_unit.ensures))
    _ _ _ _ c.in_err-accept.ensures c.from_residual.ensures

pub returns : goal.returns
unfolding try_set_of
returns g c =
    set_done _ (joined _ _ c.and.ensures c.target_faults.ensures
    (c.read_faults-readable.ensures ∙ ap (g.T.Tweenable.tweens.unreadable c.args.self.now.raw) c.target_unit.ensures))
    _ _ c.in_ok-accept.ensures c.set.ensures
