-- `Lfo::set_parameter` meets its contract: the parameter that is meant is what `Parameter::set` leaves. Assumes
-- nothing.
use Rattle.modulator.proofs.lfo.Lfo.set_parameter.Goals as goal

pub returns-in-Offset : goal.returns-in-Offset
returns-in-Offset c = rw (c.in-Offset.is, c.set-in-Offset.ensures)
