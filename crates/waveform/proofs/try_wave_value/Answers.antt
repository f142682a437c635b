-- `try_wave_value` meets its contract: it joins the faults of the waveform and of the phase, and answers the refusal of
-- the first fault or what `wave_value` gives. Assumes nothing.
use Rattle.judge.proofs.Judged.{joined, passed_up, goes_on}
use Rattle.waveform.specs.Waves.{try_wave_value_of}
use Rattle.waveform.proofs.try_wave_value.Goals as goal

pub returns-in_err-accept : goal.returns-in_err-accept
unfolding try_wave_value_of
returns-in_err-accept c = passed_up _ (joined _ _ c.and.ensures c.wave_faults.ensures c.float_faults.ensures) _ _ _ c.in_err-accept.ensures c.from_residual.ensures

pub returns : goal.returns
unfolding try_wave_value_of
returns c = goes_on _ (joined _ _ c.and.ensures c.wave_faults.ensures c.float_faults.ensures) c.in_ok-accept.ensures c.wave_value.ensures
