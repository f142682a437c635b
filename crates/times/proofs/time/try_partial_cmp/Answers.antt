-- `time::try_partial_cmp` is proved: its refusals are those of the two times, its answer that of `partial_cmp`. Assumes
-- nothing.
use Rattle.times.specs.Times.{try_order_of}
use Rattle.judge.proofs.Judged.{joined, passed_up, goes_on}
use Rattle.times.proofs.time.try_partial_cmp.Goals as goal

pub returns-in_err-accept : goal.returns-in_err-accept
unfolding try_order_of
returns-in_err-accept c = passed_up _ (joined _ _ c.and.ensures c.clock_time_faults.ensures c.clock_time_faults-2.ensures) _ _ _ c.in_err-accept.ensures c.from_residual.ensures

pub returns : goal.returns
unfolding try_order_of
returns c = goes_on _ (joined _ _ c.and.ensures c.clock_time_faults.ensures c.clock_time_faults-2.ensures) c.in_ok-accept.ensures c.partial_cmp.ensures
