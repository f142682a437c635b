-- `duration::try_as_secs_f64` is proved: its refusal is that of `span_faults`, its answer that of `as_secs_f64`.
-- Assumes nothing.
use Rattle.times.specs.Durations.{try_seconds_of}
use Rattle.judge.proofs.Judged.{passed_up, goes_on}
use Rattle.times.proofs.duration.try_as_secs_f64.Goals as goal

pub returns-in_err-accept : goal.returns-in_err-accept
unfolding try_seconds_of
returns-in_err-accept c = passed_up _ c.span_faults.ensures _ _ _ c.in_err-accept.ensures c.from_residual.ensures

pub returns : goal.returns
unfolding try_seconds_of
returns c = goes_on _ c.span_faults.ensures c.in_ok-accept.ensures c.as_secs_f64.ensures
