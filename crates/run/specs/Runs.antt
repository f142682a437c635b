-- Document 01, "Frame (added)" and "Refusal numbers": a call on the whole station, what it answers and what it leaves:
-- RULES, station-call. Assumes nothing.
use Rattle.std.specs.Prelude.{ℕ, Option, List, [], ◌∷◌}
use Rattle.judge.specs.Answer.{Answer}
use Rattle.commands.specs.Answers.{Given, by_number}
use Rattle.commands.specs.ClockCommands.{run_clock_of}
use Rattle.commands.specs.ModulatorCommands.{run_modulator_of}
use Rattle.station.specs.Frames.{no_reports, frame_of}
use Rattle.station.specs.declared.Station.{Station}
use Rattle.run.specs.declared.Call.{Call}
use Rattle.run.specs.declared.Call.TheVariants as call

-- the station that a call leaves: a command acts on its own table, and the other stays
abbrev pub after : Station → Call → Station
after st (call.Clock c) = record { clocks = (run_clock_of st.clocks c).table; modulators = st.modulators }
after st (call.Modulator c) = record { clocks = st.clocks; modulators = (run_modulator_of st.modulators c).table }
after st (call.Frame dt) = (frame_of st dt).station

-- what it answers; a frame's 0 is OK: RULES, ok
abbrev pub told : Station → Call → Answer Given
told st (call.Clock c) = (run_clock_of st.clocks c).answer
told st (call.Modulator c) = (run_modulator_of st.modulators c).answer
told st (call.Frame dt) = by_number (frame_of st dt).refused

-- and what each slot's clock reports, none at a command: RULES, frame-reports
abbrev pub reports_of : Station → Call → List (Option ℕ)
reports_of st (call.Clock c) = no_reports
reports_of st (call.Modulator c) = no_reports
reports_of st (call.Frame dt) = (frame_of st dt).reports

-- the station that a run of calls leaves, the first call first
unfoldable pub after_all : Station → List Call → Station
after_all st [] = st
after_all st (c ∷ cs) = after_all (after st c) cs
