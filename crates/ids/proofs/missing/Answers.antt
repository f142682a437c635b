-- The refusal of an id that does not live is found by the search. That of generation 0 is answered here, so that a
-- must-fail edit can name its goal.
use Rattle.std.proofs.Common.{rules}
use Rattle.ids.proofs.missing.Goals as goal

pub returns-then-generation-eq0 : goal.returns-then-generation-eq0
returns-then-generation-eq0 c = search rules
