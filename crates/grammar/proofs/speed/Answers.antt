-- A speed is found by the search. One arm is answered here, so that a must-fail edit can name its goal.
use Rattle.std.proofs.Common.{rules}
use Rattle.grammar.specs.Grammar.{first_word, speed_at}
use Rattle.grammar.proofs.speed.Goals as goal

pub returns-then-is-2 : goal.returns-then-is-2
unfolding first_word speed_at
returns-then-is-2 c = search rules
