-- What a command answers and leaves is found by the search. A stop that is refused is answered here, so that a
-- must-fail edit can name its goal.
use Rattle.std.proofs.Common.{rules}
use Rattle.judge.proofs.Judged.{never_zero_number}
use Rattle.commands.specs.ClockCommands.{run_clock_of}
use Rattle.commands.proofs.clock_command.run_clock.Goals as goal

pub returns-in_err-stop-in-Stop : goal.returns-in_err-stop-in-Stop
unfolding run_clock_of
returns-in_err-stop-in-Stop c = search (rules, never_zero_number)
