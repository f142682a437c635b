-- A tick's text is found by the search. One arm is answered here, so that a must-fail edit can name its goal.
use Rattle.std.proofs.Common.{rules}
use Rattle.replies.proofs.tick.Goals as goal

pub returns-in-Some : goal.returns-in-Some
returns-in-Some c = search rules
