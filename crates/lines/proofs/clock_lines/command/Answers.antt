-- A clock's line is found by the search. One arm is answered here, so that a must-fail edit can name its goal.
use Rattle.std.proofs.Common.{rules}
use Rattle.lines.proofs.clock_lines.command.Goals as goal

pub returns-in-Stop : goal.returns-in-Stop
returns-in-Stop c = search rules
