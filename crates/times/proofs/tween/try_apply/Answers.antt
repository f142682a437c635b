-- `try_apply` meets its contract: it joins the faults of the easing and of the amount, and answers the refusal of the
-- first fault or what `apply` gives. Assumes nothing.
use Rattle.times.specs.Easings.{try_apply_of}
use Rattle.judge.proofs.Judged.{joined, passed_up, goes_on}
use Rattle.times.proofs.tween.try_apply.Goals as goal

pub returns-in_err-accept : goal.returns-in_err-accept
unfolding try_apply_of
returns-in_err-accept c = passed_up _ (joined _ _ c.and.ensures c.ease_faults.ensures c.float_faults.ensures) _ _ _ c.in_err-accept.ensures c.from_residual.ensures

pub returns : goal.returns
unfolding try_apply_of
returns c = goes_on _ (joined _ _ c.and.ensures c.ease_faults.ensures c.float_faults.ensures) c.in_ok-accept.ensures c.apply.ensures
