-- The limits of an op are found by the search. Two arms are answered here, so that must-fail edits can name their
-- goals.
use Rattle.std.proofs.Common.{rules}
use Rattle.record.proofs.limits_of.Goals as goal

pub returns-in-Add : goal.returns-in-Add
returns-in-Add c = search rules

pub returns-in-Frame : goal.returns-in-Frame
returns-in-Frame c = search rules
