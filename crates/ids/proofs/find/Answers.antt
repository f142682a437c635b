-- `ids::find` meets its contract: the lookup goes by what the id's slot has, and finds nothing past the table's end.
-- Assumes nothing.
use Rattle.ids.proofs.Searches.{find_live, find_dead, find_past}
use Rattle.ids.proofs.find.Goals as goal

pub returns-in_default : goal.returns-in_default
returns-in_default c = find_past _ _ _ c.in_default.ensures.lookup.3

pub returns-then-eq : goal.returns-then-eq
returns-then-eq c =
    find_live _ _ _ _ c.in-Some.ensures.lookup.3.0 c.in-Some.ensures.lookup.1 c.taken.ensures c.eq.ensures c.if-eq.true

pub returns : goal.returns
returns c =
    find_dead _ _ _ _ c.in-Some.ensures.lookup.3.0 c.in-Some.ensures.lookup.1 c.taken.ensures c.eq.ensures c.if-eq.false c.missing.ensures
