-- `Out::number` is proved: the digits that `io` writes are the fewest that hold the number. Assumes nothing.
use Rattle.digits.proofs.Places.{number_is}
use Rattle.digits.proofs.Out.number.Goals as goal

pub returns : goal.returns
returns c =
    rw (← number_is c.args.n c.decimal-count.result c.decimal-count.ensures.len c.decimal-count.ensures.digits) c.put.ensures
