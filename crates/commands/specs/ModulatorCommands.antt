-- Document 01, "Frame (added)": the calls on the modulators as values. What each command answers, and what it leaves;
-- each is the call of its name, and acts at once: RULES, commands. Assumes nothing.
use Rattle.judge.specs.Answer.{on_accepted}
use Rattle.ids.specs.Tables.{Added}
use Rattle.values.specs.declared.value.ModulatorId.{ModulatorId}
use Rattle.modulator_table.specs.ModulatorTables.{add_tweener_of, add_lfo_of, remove_of, set_tweener_of, set_parameter_of, set_waveform_of, set_phase_of, modulator_value_of, ModulatorDone}
use Rattle.modulator_table.specs.declared.Modulators.{Modulators}
use Rattle.commands.specs.Answers.{of_modulator, named, value, by_number, Left}
use Rattle.commands.specs.declared.modulator_command.ModulatorCommand.{ModulatorCommand}
use Rattle.commands.specs.declared.modulator_command.ModulatorCommand.TheVariants as command

abbrev pub added_as : Added Modulators ModulatorId → Left Modulators
added_as r = record { answer = on_accepted (λ id. named of_modulator id.slot id.generation) r.answer; table = r.table }

abbrev pub done_as : ModulatorDone → Left Modulators
done_as r = record { answer = by_number r.refused; table = r.table }

unfoldable pub run_modulator_of : Modulators → ModulatorCommand → Left Modulators
run_modulator_of t (command.AddTweener x) = added_as (add_tweener_of t x)
run_modulator_of t (command.AddLfo b) = added_as (add_lfo_of t b)
run_modulator_of t (command.Remove id) = done_as (remove_of t id)
run_modulator_of t (command.SetTweener id x w) = done_as (set_tweener_of t id x w)
run_modulator_of t (command.SetParameter id k v w) = done_as (set_parameter_of t id k v w)
run_modulator_of t (command.SetWaveform id w) = done_as (set_waveform_of t id w)
run_modulator_of t (command.SetPhase id x) = done_as (set_phase_of t id x)
run_modulator_of t (command.Value id) = record { answer = on_accepted value (modulator_value_of t id); table = t }
