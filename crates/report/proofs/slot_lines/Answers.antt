-- A slot that is not used has no lines. It is answered here, so that a must-fail edit can name its goal.
use Rattle.std.proofs.Common.{rules}
use Rattle.report.proofs.slot_lines.Goals as goal

pub returns-then-not-k-clause-puts : goal.returns-then-not-k-clause-puts
returns-then-not-k-clause-puts c = search rules
