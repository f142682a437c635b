-- Document 01, "modulator/lfo.rs": the waveforms, at a phase in turns. Assumes nothing.
use Rattle.std.specs.Prelude.{true, false, cond, pos, negsuc, Float}
use Rattle.std.specs.Float.{fin, binary64}
use Rattle.std.specs.Float.Ieee.{add, sub, mul, lt}
use Rattle.doubles.specs.Doubles.{one_f, two_f, half_f, fract_of, abs_of}
use Rattle.judge.specs.Answer.{Answer, accepted}
use Rattle.judge.specs.Judge.{no_faults, both_faults, float_faults, judged}
use Rattle.judge.specs.declared.Faults.{Faults}
use Rattle.waveform.specs.declared.Waveform.{Waveform}
use Rattle.waveform.specs.declared.Waveform.TheVariants.{Triangle, Saw, Pulse}

-- 4 * |fract(p + 3/4) - 1/2| - 1: RULES, triangle
abbrev pub triangle_of : Float → Float
triangle_of p = sub binary64 (mul binary64 (abs_of (sub binary64 (fract_of (add binary64 p (fin false 3 (negsuc 1)))) half_f)) (fin false 1 (pos 2))) one_f

-- 2 * fract(p + 1/2) - 1: RULES, saw
abbrev pub saw_of : Float → Float
saw_of p = sub binary64 (mul binary64 (fract_of (add binary64 p half_f)) two_f) one_f

-- 1 up to the width, and -1 from there on: RULES, pulse
abbrev pub pulse_of : Float → Float → Float
pulse_of width p = cond (lt p width) one_f (fin true 1 (pos 0))

-- at any phase, a negative one too: RULES, negative-phase
unfoldable pub wave_value_of : Waveform → Float → Float
wave_value_of Triangle p = triangle_of p
wave_value_of Saw p = saw_of p
wave_value_of (Pulse width) p = pulse_of width p

abbrev pub wave_faults : Waveform → Faults
wave_faults Triangle = no_faults
wave_faults Saw = no_faults
wave_faults (Pulse width) = float_faults width

unfoldable pub try_wave_value_of : Waveform → Float → Answer Float
try_wave_value_of w p = judged (both_faults (wave_faults w) (float_faults p)) (accepted (wave_value_of w p))
