-- `speed` meets its contract: it is read of the clock that `look` gives. Assumes nothing.
use mathlib.Core.Path.{◌∙◌}
use Rattle.judge.proofs.Judged.{handed_on}
use Rattle.clock_table.specs.ClockTables.{clock_speed_of}
use Rattle.clock_table.proofs.Looked.{looked}
use Rattle.clock_table.proofs.Clocks.speed.Goals as goal

pub returns-in_err-c : goal.returns-in_err-c
unfolding clock_speed_of
returns-in_err-c c = handed_on _ _ c.from_residual.ensures ∙ looked (λ k. k.speed.raw) c.args.self.now c.args.id c.in_err-c.ensures

pub returns : goal.returns
unfolding clock_speed_of
returns c = looked (λ k. k.speed.raw) c.args.self.now c.args.id c.in_ok-c.ensures
