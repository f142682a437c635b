-- What a call answers and leaves is found by the search. Two arms are answered here, so that must-fail edits can name
-- their goals.
use Rattle.std.proofs.Common.{rules}
use Rattle.run.proofs.run.Goals as goal

pub returns-in-Clock : goal.returns-in-Clock
returns-in-Clock c = search rules

pub returns-in-Modulator : goal.returns-in-Modulator
returns-in-Modulator c = search rules
