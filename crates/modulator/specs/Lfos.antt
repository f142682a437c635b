-- Document 01, "modulator/tweener.rs; lfo.rs": an LFO, its parameters, its phase and its update. Assumes nothing.
use Rattle.std.specs.Prelude.{false, negsuc, Float}
use Rattle.std.specs.Float.{fin, binary64}
use Rattle.std.specs.Float.Ieee.{add, mul, div, rem}
use Rattle.doubles.specs.Doubles.{zero_f, one_f, two_f}
use Rattle.judge.specs.Judge.{both_faults, float_faults}
use Rattle.judge.specs.declared.Faults.{Faults}
use Rattle.values.specs.Tweenables.{float_tweens}
use Rattle.times.specs.declared.tween.Tween.{Tween}
use Rattle.values.specs.Values.{value_faults}
use Rattle.values.specs.declared.value.Value.{Value}
use Rattle.waveform.specs.Waves.{wave_faults, wave_value_of}
use Rattle.waveform.specs.declared.Waveform.{Waveform}
use Rattle.parameter.specs.Parameters.{new_of, set_of, update_of}
use Rattle.parameter.specs.declared.Parameter.{Parameter}
use Rattle.parameter.specs.declared.Sight.{Sight}
use Rattle.modulator.specs.declared.lfo.LfoBuilder.{LfoBuilder}
use Rattle.modulator.specs.declared.lfo.Lfo.{Lfo}
use Rattle.modulator.specs.declared.lfo.LfoParameter.{LfoParameter}
use Rattle.modulator.specs.declared.lfo.LfoParameter.TheVariants.{Frequency, Amplitude, Offset}
use Rattle.modulator.specs.declared.lfo.LfoSight.{LfoSight}

-- a full turn in radians, as the double 884279719003555 / 2^47: RULES, tau
abbrev pub tau : Float
tau = fin false 884279719003555 (negsuc 46)

-- radians as turns: RULES, tau
abbrev pub turns_of : Float → Float
turns_of x = div binary64 x tau

abbrev pub builder_faults : LfoBuilder → Faults
builder_faults b =
    both_faults (both_faults (wave_faults b.waveform) (float_faults b.starting_phase))
    (both_faults (value_faults float_tweens b.frequency) (both_faults (value_faults float_tweens b.amplitude) (value_faults float_tweens b.offset)))

-- its parameters with the defaults of linked ones, and nothing to show before an update: RULES, first-value and lfo
abbrev pub new_lfo : LfoBuilder → Lfo
new_lfo b = record {
  waveform = b.waveform;
  frequency = new_of b.frequency two_f;
  amplitude = new_of b.amplitude one_f;
  offset = new_of b.offset zero_f;
  phase = turns_of b.starting_phase;
  value = zero_f;
}

abbrev pub parameter_of : Lfo → LfoParameter → Parameter Float
parameter_of l Frequency = l.frequency
parameter_of l Amplitude = l.amplitude
parameter_of l Offset = l.offset

abbrev pub with_parameter_of : LfoParameter → Parameter Float → Lfo → Lfo
with_parameter_of Frequency p l = record { waveform = l.waveform; frequency = p; amplitude = l.amplitude; offset = l.offset; phase = l.phase; value = l.value }
with_parameter_of Amplitude p l = record { waveform = l.waveform; frequency = l.frequency; amplitude = p; offset = l.offset; phase = l.phase; value = l.value }
with_parameter_of Offset p l = record { waveform = l.waveform; frequency = l.frequency; amplitude = l.amplitude; offset = p; phase = l.phase; value = l.value }

-- an LFO with one of its parameters set: RULES, lfo-set
abbrev pub parameter_by : Lfo → LfoParameter → Value Float → Tween → Lfo
parameter_by l k v w = with_parameter_of k (set_of (parameter_of l k) v w) l

abbrev pub with_wave_of : Waveform → Lfo → Lfo
with_wave_of w l = record { waveform = w; frequency = l.frequency; amplitude = l.amplitude; offset = l.offset; phase = l.phase; value = l.value }

abbrev pub with_phase_of : Float → Lfo → Lfo
with_phase_of x l = record { waveform = l.waveform; frequency = l.frequency; amplitude = l.amplitude; offset = l.offset; phase = turns_of x; value = l.value }

-- a parameter after its update, with what it sees
abbrev pub updated_by : Parameter Float → Float → Sight → Parameter Float
updated_by p dt s = (update_of float_tweens p dt s.when s.input).parameter

-- dt times the frequency joins the phase, and whole turns are dropped: RULES, phase
abbrev pub phase_by : Float → Float → Parameter Float → Float
phase_by phase dt frequency = rem binary64 (add binary64 phase (mul binary64 dt frequency.raw)) one_f

-- the wave, scaled by the amplitude and moved by the offset: RULES, lfo-update
abbrev pub value_by : Waveform → Parameter Float → Parameter Float → Float → Float
value_by w amplitude offset phase = add binary64 offset.raw (mul binary64 amplitude.raw (wave_value_of w phase))

-- the parameters first, then the phase, then the value: RULES, lfo-update
unfoldable pub update_lfo_of : Lfo → Float → LfoSight → Lfo
update_lfo_of l dt s =
    let frequency = updated_by l.frequency dt s.frequency in
    let amplitude = updated_by l.amplitude dt s.amplitude in
    let offset = updated_by l.offset dt s.offset in
    let phase = phase_by l.phase dt frequency in
    record {
      waveform = l.waveform;
      frequency = frequency;
      amplitude = amplitude;
      offset = offset;
      phase = phase;
      value = value_by l.waveform amplitude offset phase;
    }
