-- `tween_value` meets its contract: what `as_secs_f64` and `apply` ensure, one in the other. Assumes nothing.
use Rattle.times.specs.Easings.{tween_value_of}
use Rattle.times.proofs.tween.tween_value.Goals as goal

pub returns : goal.returns
unfolding tween_value_of
returns c = rw (c.apply.ensures, c.as_secs_f64.ensures)
