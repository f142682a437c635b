-- What is not sixteen digits is answered here, so that a must-fail edit can name its goal.
use Rattle.std.proofs.Common.{rules}
use Rattle.text.specs.Numbers.{hex16_of}
use Rattle.text.proofs.hex16.Goals as goal

pub returns-then-s-ne16 : goal.returns-then-s-ne16
unfolding hex16_of
returns-then-s-ne16 c = search rules
