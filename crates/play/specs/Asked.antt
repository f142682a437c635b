-- 02, the replay of a shift: the call that a record asks for, and by which number the record is refused: RULES,
-- record-call and wrong-id. Assumes nothing.
use Rattle.std.specs.Prelude.{ℕ, cond, ◌&&◌, eqb, Float, Result, Ok, Err}
use Rattle.std.specs.Float.{binary64}
use Rattle.std.specs.Float.Ieee.{of_bits}
use Rattle.judge.specs.Answer.{Answer, accepted, refused, number_of_refusal}
use Rattle.judge.specs.declared.Refusal.{Refusal}
use Rattle.judge.specs.Judge.{decided}
use Rattle.judge.specs.Numbers.{WRONG_ID}
use Rattle.times.specs.declared.time.ClockId.{ClockId}
use Rattle.times.specs.declared.start_time.StartTime.TheVariants.{Immediate}
use Rattle.times.specs.declared.tween.Easing.TheVariants.{Linear}
use Rattle.times.specs.declared.tween.Tween.{Tween}
use Rattle.values.specs.declared.clock_speed.ClockSpeed.{ClockSpeed}
use Rattle.values.specs.declared.clock_speed.ClockSpeed.TheVariants.{TicksPerSecond}
use Rattle.values.specs.declared.value.Value.{Value}
use Rattle.values.specs.declared.value.Value.TheVariants.{Fixed}
use Rattle.commands.specs.Answers.{of_clock, of_modulator, Given, done, named, time, flag, speed, value}
use Rattle.commands.specs.declared.clock_command.ClockCommand.TheVariants as command
use Rattle.station.specs.declared.Station.{Station}
use Rattle.run.specs.Runs.{told, after}
use Rattle.run.specs.declared.Call.{Call}
use Rattle.run.specs.declared.Call.TheVariants as call
use Rattle.record.specs.declared.Op.{Op}
use Rattle.record.specs.declared.Op.TheVariants as op
use Rattle.record.specs.declared.Record.{Record}

-- ---- the call

-- `arg=` has a double's bits
abbrev pub double_of : Record → Float
double_of r = of_bits binary64 r.arg

abbrev pub id_of : Record → ClockId
id_of r = record { slot = r.slot; generation = r.generation }

-- it is ticks per second where a speed is asked for
abbrev pub speed_of : Record → Value ClockSpeed
speed_of r = Fixed (TicksPerSecond (double_of r))

-- a tween that starts at once and takes no time
abbrev pub no_time : Tween
no_time = record { start_time = Immediate; duration = 0; easing = Linear }

abbrev pub call_by : Record → Op → Call
call_by r op.Add = call.Clock (command.Add (speed_of r))
call_by r op.Drop = call.Clock (command.Remove (id_of r))
call_by r op.Start = call.Clock (command.Start (id_of r))
call_by r op.Stop = call.Clock (command.Stop (id_of r))
call_by r op.Reset = call.Clock (command.Reset (id_of r))
call_by r op.Speed = call.Clock (command.SetSpeed (id_of r) (speed_of r) no_time)
call_by r op.Frame = call.Frame (double_of r)

abbrev pub call_of : Record → Call
call_of r = call_by r r.op

-- ---- what comes of it

abbrev pub is_of : Record → ℕ → ℕ → ℕ
is_of r slot generation = cond (eqb slot r.slot && eqb generation r.generation) 0 WRONG_ID

-- the call's own number first; then an add's id has to be the record's; 0, OK, where the record is accepted
abbrev pub number_for : Record → Answer Given → ℕ
number_for r (refused n) = n
number_for r (accepted done) = 0
number_for r (accepted (named of_clock slot generation)) = is_of r slot generation
number_for r (accepted (named of_modulator slot generation)) = 0
number_for r (accepted (time t)) = 0
number_for r (accepted (flag b)) = 0
number_for r (accepted (speed s)) = 0
number_for r (accepted (value x)) = 0

-- the number that a record is given on a station, which the id that an add gives is part of
unfoldable pub number_on : Station → Record → ℕ
number_on st r = number_for r (told st (call_of r))

-- the station that an accepted record leaves, or the number of its refusal
unfoldable pub taken_on : Station → Record → Answer Station
taken_on st r = decided (number_on st r) (accepted (after st (call_of r))) refused

-- the same as the code tells it: the station that is left where the record is accepted, or its refusal
abbrev pub taken : Result (Unit {0}) Refusal → Station → Answer Station
taken (Ok i) st = accepted st
taken (Err r) st = refused (number_of_refusal r)
