-- A reading is the entry of its unit. One arm is answered here, so that a must-fail edit can name its goal.
use Rattle.std.proofs.Common.{rules}
use Rattle.calls.proofs.speeds.unit.Goals as goal

pub returns-in-Tps : goal.returns-in-Tps
returns-in-Tps c = search rules
