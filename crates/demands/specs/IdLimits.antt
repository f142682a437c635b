-- The limits of GONE and NEVER_ISSUED, as one table with one claim: the ids just inside and just outside, at every call
-- by an id, with good and with bad arguments behind it, and in the lookup where a slot is retired. 02, dead or never
-- ours. RULES, gone, never-issued and order. Assumes nothing.
use Rattle.std.specs.Prelude.{ℕ, List, [], ◌∷◌, ◌++◌, T, replicate}
use Rattle.std.specs.Float.Ieee.{of_bits, lt, le, eq, div}
use Rattle.ids.specs.Keys.{free_of, lives_in, standing_of, find_of, taken_at, left_at}
use Rattle.ids.specs.Lists.{read_at}
use Rattle.ids.specs.declared.Key.{Key}
use Rattle.judge.specs.Answer.{number_told}
use Rattle.judge.specs.Judge.{number_of, first_fault}
use Rattle.judge.specs.Numbers.{«GONE», NEVER_ISSUED, BAD_FLOAT, BAD_SPEED, «BUFFER»}
use Rattle.values.specs.declared.clock_speed.ClockSpeed.TheVariants.{TicksPerSecond}
use Rattle.times.specs.declared.start_time.StartTime.TheVariants.{Immediate}
use Rattle.times.specs.declared.time.ClockId.{ClockId}
use Rattle.times.specs.declared.tween.Easing.TheVariants.{Linear}
use Rattle.times.specs.declared.tween.Tween.{Tween}
use Rattle.values.specs.declared.value.ModulatorId.{ModulatorId}
use Rattle.values.specs.declared.value.Value.TheVariants.{Fixed}
use Rattle.waveform.specs.declared.Waveform.TheVariants.{Triangle, Saw, Pulse}
use Rattle.parameter.specs.Parameters.{try_set_of}
use Rattle.modulator.specs.declared.lfo.LfoParameter.TheVariants.{Frequency}
use Rattle.clock_table.specs.ClockTables.{add_clock_of, remove_of, tick_on_of, reset_clock_of, set_speed_of, clock_time_of, clock_ticking_of, clock_speed_of}
use Rattle.modulator_table.specs.ModulatorTables as tables
use Rattle.commands.specs.ClockCommands.{run_clock_of}
use Rattle.commands.specs.ModulatorCommands.{run_modulator_of}
use Rattle.commands.specs.declared.clock_command.ClockCommand.{ClockCommand}
use Rattle.commands.specs.declared.clock_command.ClockCommand.TheVariants as clocks
use Rattle.commands.specs.declared.modulator_command.ModulatorCommand.{ModulatorCommand}
use Rattle.commands.specs.declared.modulator_command.ModulatorCommand.TheVariants as modulators
use Rattle.station.specs.Stations.{fresh_station}
use Rattle.station.specs.declared.Station.{Station}
use Rattle.report.specs.Reports.{report_of}
use Rattle.laws.specs.Calls.{clock, modulator, after_all, call_number}
use Rattle.demands.specs.Limits.{Limit, all, limit, one, a_nan, per_second, tween_of, tween, fixed, lfo}

-- In each table slot 0 holds its second entry, slot 1 its first, slot 2 held one and is free, and slot 3 gave nothing
-- out. Of the modulators, 0:2 is a tweener and 1:1 an LFO; the dead 0:1 was a tweener, and 2:1 an LFO.
abbrev morning : Station
morning =
    after_all fresh_station
    (clock (clocks.Add (Fixed per_second)) ∷ clock (clocks.Remove (record { slot = 0; generation = 1 })) ∷ clock (clocks.Add (Fixed per_second))
    ∷ clock (clocks.Add (Fixed per_second)) ∷ clock (clocks.Add (Fixed per_second)) ∷ clock (clocks.Remove (record { slot = 2; generation = 1 }))
    ∷ modulator (modulators.AddTweener one) ∷ modulator (modulators.Remove (record { slot = 0; generation = 1 })) ∷ modulator (modulators.AddTweener one)
    ∷ modulator (modulators.AddLfo (lfo Triangle fixed fixed fixed one)) ∷ modulator (modulators.AddLfo (lfo Saw fixed fixed fixed one)) ∷ modulator (modulators.Remove (record { slot = 2; generation = 1 }))
    ∷ [])

-- f is the number that a call gives to an id, p the one for 0:2 and q the one for 1:1, which live
abbrev ids : ℕ → ℕ → (ℕ → ℕ → ℕ) → List Limit
ids p q f =
    limit (f 0 0) NEVER_ISSUED
    ∷ limit (f 0 1) «GONE»
    ∷ limit (f 0 2) p
    ∷ limit (f 0 3) NEVER_ISSUED
    ∷ limit (f 0 4294967295) NEVER_ISSUED
    ∷ limit (f 1 0) NEVER_ISSUED
    ∷ limit (f 1 1) q
    ∷ limit (f 1 2) NEVER_ISSUED
    ∷ limit (f 2 0) NEVER_ISSUED
    ∷ limit (f 2 1) «GONE»
    ∷ limit (f 2 2) NEVER_ISSUED
    ∷ limit (f 3 0) NEVER_ISSUED
    ∷ limit (f 3 1) NEVER_ISSUED
    ∷ limit (f 15 1) NEVER_ISSUED
    ∷ limit (f 16 0) NEVER_ISSUED
    ∷ limit (f 16 1) NEVER_ISSUED
    ∷ limit (f 4294967295 1) NEVER_ISSUED
    ∷ []

abbrev clock_ids : (ClockId → ClockCommand) → List Limit
clock_ids f = ids 0 0 (λ i g. call_number morning (clock (f (record { slot = i; generation = g }))))

abbrev modulator_ids : ℕ → ℕ → (ModulatorId → ModulatorCommand) → List Limit
modulator_ids p q f = ids p q (λ i g. call_number morning (modulator (f (record { slot = i; generation = g }))))

-- a tween that is too long, so that the id is seen to come before it
abbrev too_long : Tween
too_long = tween_of Immediate 86_400_000_000_001 Linear

-- a slot that is retired, or was used very often: no run of calls is written down that comes so far
abbrev lookups : (Key → ℕ → ℕ) → List Limit
lookups f =
    limit (f (left_at 4294967295) 4294967295) «GONE»
    ∷ limit (f (left_at 4294967295) 1) «GONE»
    ∷ limit (f (left_at 4294967295) 0) NEVER_ISSUED
    ∷ limit (f (taken_at 4294967295) 4294967295) 0
    ∷ limit (f (taken_at 4294967295) 4294967294) «GONE»
    ∷ limit (f (left_at 4294967294) 4294967294) «GONE»
    ∷ limit (f (left_at 4294967294) 4294967295) NEVER_ISSUED
    ∷ []

-- every call by an id; and those that take arguments or a buffer with bad ones too, which come behind the id
pub id_table : List Limit
id_table =
    lookups (λ k g. number_told (find_of (k ∷ []) 0 g))
    ++ clock_ids (λ id. clocks.Remove id)
    ++ clock_ids (λ id. clocks.Start id)
    ++ clock_ids (λ id. clocks.Stop id)
    ++ clock_ids (λ id. clocks.Reset id)
    ++ clock_ids (λ id. clocks.SetSpeed id (Fixed per_second) tween)
    ++ ids BAD_SPEED BAD_SPEED (λ i g. call_number morning (clock (clocks.SetSpeed (record { slot = i; generation = g }) (Fixed (TicksPerSecond a_nan)) too_long)))
    ++ clock_ids (λ id. clocks.Time id)
    ++ clock_ids (λ id. clocks.Ticking id)
    ++ clock_ids (λ id. clocks.Speed id)
    ++ ids 0 0 (λ i g. number_told (report_of morning.clocks (record { slot = i; generation = g }) (replicate 96 0)).answer)
    ++ ids «BUFFER» «BUFFER» (λ i g. number_told (report_of morning.clocks (record { slot = i; generation = g }) (replicate 95 0)).answer)
    ++ modulator_ids 0 0 (λ id. modulators.Remove id)
    ++ modulator_ids 0 0 (λ id. modulators.Value id)
    ++ modulator_ids 0 NEVER_ISSUED (λ id. modulators.SetTweener id one tween)
    ++ modulator_ids BAD_FLOAT NEVER_ISSUED (λ id. modulators.SetTweener id a_nan too_long)
    ++ modulator_ids NEVER_ISSUED 0 (λ id. modulators.SetParameter id Frequency fixed tween)
    ++ modulator_ids NEVER_ISSUED BAD_FLOAT (λ id. modulators.SetParameter id Frequency (Fixed a_nan) too_long)
    ++ modulator_ids NEVER_ISSUED 0 (λ id. modulators.SetWaveform id Saw)
    ++ modulator_ids NEVER_ISSUED BAD_FLOAT (λ id. modulators.SetWaveform id (Pulse a_nan))
    ++ modulator_ids NEVER_ISSUED 0 (λ id. modulators.SetPhase id one)
    ++ modulator_ids NEVER_ISSUED BAD_FLOAT (λ id. modulators.SetPhase id a_nan)

-- the one claim: dead modulators are gone for a call of either kind, living ones of the other kind were never issued
pub id_limits : T (all id_table)
unfolding all id_table number_of first_fault of_bits lt le eq div free_of lives_in standing_of find_of read_at after_all run_clock_of run_modulator_of add_clock_of remove_of tick_on_of reset_clock_of set_speed_of clock_time_of clock_ticking_of clock_speed_of try_set_of tables.add_tweener_of tables.add_lfo_of tables.remove_of tables.set_tweener_of tables.set_parameter_of tables.set_waveform_of tables.set_phase_of tables.modulator_value_of report_of
id_limits = tt
