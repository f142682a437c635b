-- A speed's text is found by the search. One arm is answered here, so that a must-fail edit can name its goal.
use Rattle.std.proofs.Common.{rules}
use Rattle.answers.proofs.speed.Goals as goal

pub returns-in-SecondsPerTick : goal.returns-in-SecondsPerTick
returns-in-SecondsPerTick c = search rules
