-- What the theorem on a recorder asks for can be met: a run of the two motors 0041 and 41 is computed, with their
-- clocks 0:1 and 1:1. And the places and the numbers of refused replays, each at one small recording, in digits. RULES,
-- recorder, replay, trace and wrong-id. Assumes nothing.
use Prim.Native.Nat.{ℕ}
use native.Mathlib.Omega.{arith}
use mathlib.Core.Path.{◌≡◌, refl}
use mathlib.Core.List.{List, [], ◌∷◌, ◌++◌}
use lib.Ieee.{of_bits, binary64, add, sub, mul, lt, le, eq, to_unsigned}
use lib.ListN.{replicate}
use Rattle.doubles.specs.Doubles.{zero_f}
use Rattle.ids.specs.Keys.{free_of, lives_in, standing_of, find_of}
use Rattle.ids.specs.Lists.{read_at}
use Rattle.ticks.specs.WholeTicks.{room_for, taken_of}
use Rattle.judge.specs.Answer.{accepted}
use Rattle.judge.specs.Judge.{number_of, first_fault}
use Rattle.times.specs.declared.time.ClockId.{ClockId}
use Rattle.values.specs.declared.clock_speed.ClockSpeed.TheVariants.{TicksPerSecond}
use Rattle.values.specs.declared.value.Value.TheVariants.{Fixed}
use Rattle.parameter.specs.Parameters.{update_of}
use Rattle.clock.specs.OneClock.{tick_of, update_clock_of}
use Rattle.clock_table.specs.ClockTables.{add_clock_of, remove_of, tick_on_of, clock_time_of}
use Rattle.commands.specs.ClockCommands.{run_clock_of}
use Rattle.commands.specs.declared.clock_command.ClockCommand.TheVariants as command
use Rattle.station.specs.Frames.{modulator_turns, modulators_turned, clock_turns, clocks_turned, frame_of}
use Rattle.station.specs.Stations.{fresh_station, info_in}
use Rattle.station.specs.Turns.{turn_clock}
use Rattle.record.specs.declared.Op.TheVariants as op
use Rattle.record.specs.declared.Record.{Record}
use Rattle.run.specs.Runs.{after_all}
use Rattle.run.specs.declared.Call.{Call}
use Rattle.run.specs.declared.Call.TheVariants as call
use Rattle.record.specs.Fields.{begins, decimal_behind, hex_behind}
use Rattle.record.specs.Records.{«op=add», «op=drop», «op=stop», «slot=», «gen=», «arg=», op_of, judge_of}
use Rattle.recording.specs.Recordings.{lines_from, tape_of}
use Rattle.recording.specs.Writings.{Writable, All, ended, written_of}
use Rattle.text.specs.Words.{same_bytes}
use Rattle.text.specs.Numbers.{decimal_of, hex16_of, number_from}
use Rattle.play.specs.Asked.{number_on, taken_on}
use Rattle.play.specs.Replays.{end_of, replay_of}
use Rattle.play.specs.OneByOne.{Noted}
use Rattle.play.specs.Verdicts.{Verdict}
use Rattle.play.specs.Verdicts as verdict
use Rattle.play.specs.declared.Place.TheVariants as place
use Rattle.play.proofs.OneByOne.{recorded_run}

-- both put on, at two and four ticks a second, both started, and half a second
abbrev pub shift : List Record
shift =
    record { op = op.Add; slot = 0; generation = 1; arg = 0x4000000000000000 }
    ∷ record { op = op.Add; slot = 1; generation = 1; arg = 0x4010000000000000 }
    ∷ record { op = op.Start; slot = 0; generation = 1; arg = 0 }
    ∷ record { op = op.Start; slot = 1; generation = 1; arg = 0 }
    ∷ record { op = op.Frame; slot = 0; generation = 0; arg = 0x3fe0000000000000 }
    ∷ []

pub writable : All Writable shift
writable = omega arith

abbrev id : ℕ → ℕ → ClockId
id s g = record { slot = s; generation = g }

-- the same run as calls, with no record in them
abbrev pub calls : List Call
calls =
    call.Clock (command.Add (Fixed (TicksPerSecond (of_bits binary64 0x4000000000000000))))
    ∷ call.Clock (command.Add (Fixed (TicksPerSecond (of_bits binary64 0x4010000000000000))))
    ∷ call.Clock (command.Start (id 0 1))
    ∷ call.Clock (command.Start (id 1 1))
    ∷ call.Frame (of_bits binary64 0x3fe0000000000000)
    ∷ []

pub noted : Noted fresh_station calls shift
unfolding Noted of_bits number_of first_fault add sub mul lt le eq to_unsigned free_of lives_in standing_of find_of read_at room_for taken_of tick_of update_clock_of add_clock_of tick_on_of run_clock_of update_of info_in turn_clock modulator_turns modulators_turned clock_turns clocks_turned frame_of
noted = (refl, refl, (refl, refl, (refl, refl, (refl, refl, (refl, refl, tt)))))

pub replayed : replay_of (written_of shift) ≡ record { station = after_all fresh_station calls; verdict = verdict.Accepted }
replayed = recorded_run calls shift writable noted

-- half a second at two and at four ticks a second: 0041 stands at tick 1, and 41 at tick 2
abbrev stands : ℕ → ℕ → Type 0
stands s n = clock_time_of (after_all fresh_station calls).clocks (id s 1) ≡ accepted record { clock = id s 1; ticks = n; fraction = zero_f }

pub two_motors : stands 0 1 × stands 1 2
unfolding after_all clock_time_of of_bits number_of first_fault add sub mul lt le eq to_unsigned free_of lives_in standing_of find_of read_at room_for taken_of tick_of update_clock_of add_clock_of tick_on_of run_clock_of update_of info_in turn_clock modulator_turns modulators_turned clock_turns clocks_turned frame_of
two_motors = (refl, refl)

-- ---- refusals

abbrev verdict_on : List ℕ → Verdict
verdict_on s = (replay_of s).verdict

-- no byte at all is no refusal
pub empty : verdict_on [] ≡ verdict.Accepted
unfolding replay_of end_of tape_of lines_from
empty = refl

-- 64 bytes without a line feed end inside a record; the 65th makes the line bad, at its start
pub room : (verdict_on (replicate 64 0x61) ≡ verdict.Refused 13 (place.Byte 64)) × (verdict_on (replicate 65 0x61) ≡ verdict.Refused 13 (place.Byte 0))
unfolding replay_of end_of tape_of lines_from
room = (refl, refl)

-- a zero in front of a slot's digit: the second line is bad, which starts at byte 7
pub leading_zero : verdict_on (ended «op=add» ++ ended («slot=» ++ 0x30 ∷ 0x31 ∷ [])) ≡ verdict.Refused 13 (place.Byte 7)
unfolding replay_of end_of tape_of lines_from judge_of op_of same_bytes begins decimal_behind decimal_of number_from
leading_zero = refl

-- ---- refusals behind a first record that puts 0:1 on, and has 41 bytes

abbrev zeros : List ℕ
zeros = replicate 16 0x30

abbrev lines : List ℕ → List ℕ → List ℕ → List ℕ → List ℕ
lines op s g a = ended op ++ ended («slot=» ++ s) ++ ended («gen=» ++ g) ++ ended («arg=» ++ a)

abbrev added : List ℕ
added = lines «op=add» (0x30 ∷ []) (0x31 ∷ []) zeros

-- a bad third line starts at byte 56
pub bad_line : verdict_on (added ++ ended «op=stop» ++ ended («slot=» ++ 0x30 ∷ []) ++ ended («gen=» ++ 0x30 ∷ 0x31 ∷ [])) ≡ verdict.Refused 13 (place.Byte 56)
unfolding replay_of end_of taken_on number_on tape_of lines_from judge_of op_of same_bytes begins decimal_behind decimal_of hex_behind hex16_of number_from of_bits number_of first_fault lt le eq free_of add_clock_of run_clock_of
bad_line = refl

-- the recording ends behind three bytes of it
pub cut : verdict_on (added ++ 0x6f ∷ 0x70 ∷ 0x3d ∷ []) ≡ verdict.Refused 13 (place.Byte 44)
unfolding replay_of end_of taken_on number_on tape_of lines_from judge_of op_of same_bytes begins decimal_behind decimal_of hex_behind hex16_of number_from of_bits number_of first_fault lt le eq free_of add_clock_of run_clock_of
cut = refl

-- 0:2 was not given out yet: the call's own number
pub never_issued_lem : verdict_on (added ++ lines «op=stop» (0x30 ∷ []) (0x32 ∷ []) zeros) ≡ verdict.Refused 15 (place.Record 1)
unfolding replay_of end_of taken_on number_on tape_of lines_from judge_of op_of same_bytes begins decimal_behind decimal_of hex_behind hex16_of number_from of_bits number_of first_fault lt le eq free_of lives_in standing_of find_of read_at add_clock_of tick_on_of run_clock_of
never_issued_lem = refl

-- 0:1 is taken off, and then stopped: it is gone
pub gone :
    verdict_on (added ++ lines «op=drop» (0x30 ∷ []) (0x31 ∷ []) zeros ++ lines «op=stop» (0x30 ∷ []) (0x31 ∷ []) zeros) ≡ verdict.Refused 7 (place.Record 2)
unfolding replay_of end_of taken_on number_on tape_of lines_from judge_of op_of same_bytes begins decimal_behind decimal_of hex_behind hex16_of number_from of_bits number_of first_fault lt le eq free_of lives_in standing_of find_of read_at add_clock_of remove_of tick_on_of run_clock_of
gone = refl

-- an add whose speed is NaN, and which names another id than it would give: the call's own number comes first
pub speed_first : verdict_on (added ++ lines «op=add» (0x30 ∷ []) (0x39 ∷ []) (0x37 ∷ 0x66 ∷ 0x66 ∷ 0x38 ∷ replicate 12 0x30)) ≡ verdict.Refused 3 (place.Record 1)
unfolding replay_of end_of taken_on number_on tape_of lines_from judge_of op_of same_bytes begins decimal_behind decimal_of hex_behind hex16_of number_from of_bits number_of first_fault lt le eq free_of add_clock_of run_clock_of
speed_first = refl

-- the second add gives 1:1, and not 0:1: the station is the one from before it, with 0:1 alone
pub wrong_id : replay_of (added ++ added) ≡ record { station = (replay_of added).station; verdict = verdict.Refused 14 (place.Record 1) }
unfolding replay_of end_of taken_on number_on tape_of lines_from judge_of op_of same_bytes begins decimal_behind decimal_of hex_behind hex16_of number_from of_bits number_of first_fault lt le eq free_of add_clock_of run_clock_of
wrong_id = refl
