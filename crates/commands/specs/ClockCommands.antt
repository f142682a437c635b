-- Document 01, "Frame (added)": the calls on the clocks as values. What each command answers, and what it leaves; each
-- is the call of its name, and acts at once: RULES, commands. Assumes nothing.
use Rattle.std.specs.Prelude.{true, false}
use Rattle.judge.specs.Answer.{Answer, on_accepted}
use Rattle.ids.specs.Tables.{Added}
use Rattle.times.specs.declared.time.ClockId.{ClockId}
use Rattle.clock_table.specs.ClockTables.{add_clock_of, remove_of, tick_on_of, reset_clock_of, set_speed_of, clock_time_of, clock_ticking_of, clock_speed_of, ClockDone}
use Rattle.clock_table.specs.declared.Clocks.{Clocks}
use Rattle.commands.specs.Answers.{of_clock, Given, named, time, flag, speed, by_number, Left}
use Rattle.commands.specs.declared.clock_command.ClockCommand.{ClockCommand}
use Rattle.commands.specs.declared.clock_command.ClockCommand.TheVariants as command

abbrev pub added_as : Added Clocks ClockId → Left Clocks
added_as r = record { answer = on_accepted (λ id. named of_clock id.slot id.generation) r.answer; table = r.table }

abbrev pub done_as : ClockDone → Left Clocks
done_as r = record { answer = by_number r.refused; table = r.table }

-- a read leaves the table
abbrev pub read_as : {A : Type 0} → (A → Given) → Clocks → Answer A → Left Clocks
read_as f t a = record { answer = on_accepted f a; table = t }

unfoldable pub run_clock_of : Clocks → ClockCommand → Left Clocks
run_clock_of t (command.Add v) = added_as (add_clock_of t v)
run_clock_of t (command.Remove id) = done_as (remove_of t id)
run_clock_of t (command.Start id) = done_as (tick_on_of true t id)
run_clock_of t (command.Stop id) = done_as (tick_on_of false t id)
run_clock_of t (command.Reset id) = done_as (reset_clock_of t id)
run_clock_of t (command.SetSpeed id v w) = done_as (set_speed_of t id v w)
run_clock_of t (command.Time id) = read_as time t (clock_time_of t id)
run_clock_of t (command.Ticking id) = read_as flag t (clock_ticking_of t id)
run_clock_of t (command.Speed id) = read_as speed t (clock_speed_of t id)
