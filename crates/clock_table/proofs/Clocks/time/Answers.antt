-- `time` meets its contract: it is read of the clock that `look` gives. Assumes nothing.
use mathlib.Core.Path.{ap, ◌∙◌}
use Rattle.judge.specs.Answer.{accepted}
use Rattle.judge.proofs.Judged.{handed_on}
use Rattle.clock_table.specs.ClockTables.{time_of, clock_time_of}
use Rattle.clock_table.proofs.Looked.{looked}
use Rattle.clock_table.proofs.Clocks.time.Goals as goal

pub returns-in_err-c : goal.returns-in_err-c
unfolding clock_time_of
returns-in_err-c c = handed_on _ _ c.from_residual.ensures ∙ looked (time_of c.args.id) c.args.self.now c.args.id c.in_err-c.ensures

pub returns : goal.returns
unfolding clock_time_of
returns c = ap accepted c.time_of.ensures ∙ looked (time_of c.args.id) c.args.self.now c.args.id c.in_ok-c.ensures
