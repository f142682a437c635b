-- The place at the end is found by the search. It is answered here, so that a must-fail edit can name its goal.
use Rattle.std.proofs.Common.{rules}
use Rattle.text.proofs.words.Words.stop.Goals as goal

pub returns-clause-at_end : goal.returns-clause-at_end
returns-clause-at_end c = search rules
