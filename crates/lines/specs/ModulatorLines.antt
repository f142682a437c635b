-- The calls tweener.*, lfo.*, mod.value and mod.drop of docs/BENCH.md: the command that a line is, if it is one.
-- Assumes nothing.
use Rattle.std.specs.Prelude.{ℕ, List, Option, None}
use Rattle.values.specs.declared.value.ModulatorId.{ModulatorId}
use Rattle.grammar.specs.Grammar.{float_at, id_at, float_value_at, wave_at, with_read, with_id}
use Rattle.modulator.specs.declared.lfo.LfoParameter.{LfoParameter}
use Rattle.modulator.specs.declared.lfo.LfoParameter.TheVariants.{Frequency, Amplitude, Offset}
use Rattle.names.specs.declared.OneModulator.{OneModulator}
use Rattle.names.specs.declared.OneModulator.TheVariants as one
use Rattle.commands.specs.declared.modulator_command.ModulatorCommand.{ModulatorCommand}
use Rattle.commands.specs.declared.modulator_command.ModulatorCommand.TheVariants.{AddTweener, AddLfo, Remove, SetTweener, SetParameter, SetWaveform, SetPhase, Value}
use Rattle.lines.specs.Things.{tween_at, whole}

-- "`tweener.add F`", behind its name
unfoldable pub add_tweener_line : List ℕ → ℕ → Option ModulatorCommand
add_tweener_line s at = with_read None (float_at s at) (λ x to. whole s to (AddTweener x))

-- "`lfo.add WAVE FVAL FVAL FVAL F` (frequency, amplitude, offset, starting phase)", behind its name
unfoldable pub add_lfo_line : List ℕ → ℕ → Option ModulatorCommand
add_lfo_line s at =
    with_read None (wave_at s at) (λ w a.
    with_read None (float_value_at s a) (λ frequency b.
    with_read None (float_value_at s b) (λ amplitude c.
    with_read None (float_value_at s c) (λ offset d.
    with_read None (float_at s d) (λ phase to.
    whole s to (AddLfo (record { waveform = w; frequency = frequency; amplitude = amplitude; offset = offset; starting_phase = phase })))))))

-- "`tweener.set ID F TWEEN`", behind the id
unfoldable pub set_tweener_line : List ℕ → ℕ → ModulatorId → Option ModulatorCommand
set_tweener_line s at id =
    with_read None (float_at s at) (λ x a.
    with_read None (tween_at s a) (λ t to.
    whole s to (SetTweener id x t)))

-- "`lfo.freq ID FVAL TWEEN` `lfo.amp ..` `lfo.off ..`", behind the id
unfoldable pub set_parameter_line : List ℕ → ℕ → ModulatorId → LfoParameter → Option ModulatorCommand
set_parameter_line s at id k =
    with_read None (float_value_at s at) (λ v a.
    with_read None (tween_at s a) (λ t to.
    whole s to (SetParameter id k v t)))

-- "`lfo.wave ID WAVE`", behind the id
unfoldable pub set_waveform_line : List ℕ → ℕ → ModulatorId → Option ModulatorCommand
set_waveform_line s at id = with_read None (wave_at s at) (λ w to. whole s to (SetWaveform id w))

-- "`lfo.phase ID F`", behind the id
unfoldable pub set_phase_line : List ℕ → ℕ → ModulatorId → Option ModulatorCommand
set_phase_line s at id = with_read None (float_at s at) (λ x to. whole s to (SetPhase id x))

-- "`mod.value ID`", "`mod.drop ID`", behind the id
unfoldable pub read_line : List ℕ → ℕ → ModulatorCommand → Option ModulatorCommand
read_line s at command = whole s at command

-- the calls whose first argument is an id, behind it
unfoldable pub one_line : List ℕ → ℕ → OneModulator → ModulatorId → Option ModulatorCommand
one_line s at one.Set id = set_tweener_line s at id
one_line s at one.Freq id = set_parameter_line s at id Frequency
one_line s at one.Amp id = set_parameter_line s at id Amplitude
one_line s at one.Off id = set_parameter_line s at id Offset
one_line s at one.Wave id = set_waveform_line s at id
one_line s at one.Phase id = set_phase_line s at id
one_line s at one.Value id = read_line s at (Value id)
one_line s at one.Drop id = read_line s at (Remove id)

-- the same, behind their names
unfoldable pub by_id_line : List ℕ → ℕ → OneModulator → Option ModulatorCommand
by_id_line s at call = with_id None (id_at s at) (λ slot generation to. one_line s to call (record { slot = slot; generation = generation }))
