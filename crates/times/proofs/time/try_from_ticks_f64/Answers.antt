-- `time::try_from_ticks_f64` is proved: its refusals are those of `float_faults` and of the sign, its answer is what
-- `to_u64` and `fract` give. Assumes nothing.
use Rattle.times.specs.Times.{try_from_float_of}
use Rattle.judge.proofs.Judged.{joined, passed_up, goes_on}
use Rattle.times.proofs.time.try_from_ticks_f64.Goals as goal

pub returns-in_err-accept : goal.returns-in_err-accept
unfolding try_from_float_of
returns-in_err-accept c = passed_up _ (joined _ _ c.and.ensures c.float_faults.ensures (rw (c.none-sign.ensures, c.sign_bit.ensures))) _ _ _ c.in_err-accept.ensures c.from_residual.ensures

pub returns : goal.returns
unfolding try_from_float_of
returns c =
    goes_on _ (joined _ _ c.and.ensures c.float_faults.ensures (rw (c.none-sign.ensures, c.sign_bit.ensures))) c.in_ok-accept.ensures
    (rw (c.time_at.ensures, c.to_u64.ensures, c.fract.ensures))
