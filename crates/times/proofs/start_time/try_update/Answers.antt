-- `try_update` meets its contract: it joins the faults of dt and of the start time, and answers the refusal of the
-- first fault or what `update` gives. Assumes nothing.
use Rattle.times.specs.Starts.{try_update_of}
use Rattle.judge.proofs.Judged.{joined, passed_up, goes_on}
use Rattle.times.proofs.start_time.try_update.Goals as goal

pub returns-in_err-accept : goal.returns-in_err-accept
unfolding try_update_of
returns-in_err-accept c = passed_up _ (joined _ _ c.and.ensures c.dt_faults.ensures c.start_faults.ensures) _ _ _ c.in_err-accept.ensures c.from_residual.ensures

pub returns : goal.returns
unfolding try_update_of
returns c = goes_on _ (joined _ _ c.and.ensures c.dt_faults.ensures c.start_faults.ensures) c.in_ok-accept.ensures c.update.ensures
