-- The place behind a word is found by the search. It is answered here, so that a must-fail edit can name its goal.
use Rattle.std.proofs.Common.{rules}
use Rattle.text.proofs.words.Words.next.Goals as goal

pub returns-clause-behind : goal.returns-clause-behind
returns-clause-behind c = search rules
