-- `wave_value` meets its contract: each arm is the case of the definition that its variant names. Assumes nothing.
use lib.Ieee.{of_bits}
use Rattle.waveform.specs.Waves.{wave_value_of}
use Rattle.waveform.proofs.wave_value.Goals as goal

pub returns-in-Triangle : goal.returns-in-Triangle
unfolding wave_value_of of_bits
returns-in-Triangle c = rw (c.abs.ensures, c.fract.ensures, c.in-Triangle.is)

pub returns-in-Saw : goal.returns-in-Saw
unfolding wave_value_of of_bits
returns-in-Saw c = rw (c.fract-in-Saw.ensures, c.in-Saw.is)

pub returns-in-Pulse : goal.returns-in-Pulse
unfolding wave_value_of
returns-in-Pulse c = rw (c.pulse.ensures, c.in-Pulse.is)
