-- The number of a refusal is the table's. One arm is answered here, so that a must-fail edit can name its goal.
use Rattle.std.proofs.Common.{rules}
use Rattle.judge.proofs.U32FromRefusal.from.Goals as goal

pub returns-in-Gone : goal.returns-in-Gone
returns-in-Gone c = search rules
