-- An update is found by the search. That of a ticking clock is answered here, so that a must-fail edit can name its
-- goal.
use Rattle.std.proofs.Common.{rules}
use Rattle.clock.specs.OneClock.{update_clock_of}
use Rattle.clock.proofs.Clock.update.Goals as goal

pub returns-then-self-clause-told : goal.returns-then-self-clause-told
unfolding update_clock_of
returns-then-self-clause-told c = search rules
