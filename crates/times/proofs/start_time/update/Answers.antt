-- `update` meets its contract: each arm is the case of the definition that its variant names, a delay by `delayed` and
-- a clock time by `awaited`. Assumes nothing.
use Rattle.times.specs.Starts.{update_of}
use Rattle.times.proofs.start_time.update.Goals as goal

pub returns-in-Immediate : goal.returns-in-Immediate
unfolding update_of
returns-in-Immediate c = cc

pub returns-in-Delayed : goal.returns-in-Delayed
unfolding update_of
returns-in-Delayed c = cc

pub returns-in-At : goal.returns-in-At
unfolding update_of
returns-in-At c = rw (c.awaited.ensures, c.in-At.is)
