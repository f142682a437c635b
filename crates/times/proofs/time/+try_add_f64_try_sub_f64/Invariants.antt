-- The measure of each of the two is 1 at an amount with a minus sign and else 0: the call is at its opposite, which has
-- none. Assumes nothing.
use Rattle.times.proofs.time.Opposite.{steps}
use Rattle.times.proofs.time.+try_add_f64_try_sub_f64.Given as goal

abbrev pub decreases-try_add_f64 : goal.decreases-try_add_f64
decreases-try_add_f64 l = steps l.x

abbrev pub decreases-try_sub_f64 : goal.decreases-try_sub_f64
decreases-try_sub_f64 l = steps l.x
