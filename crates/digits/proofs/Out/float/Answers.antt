-- `Out::float` is proved: sixteen digits hold the 64 bits, and `io` writes as many. Assumes nothing.
use Rattle.digits.proofs.Places.{float_is}
use Rattle.digits.proofs.Out.float.Goals as goal

pub returns : goal.returns
returns c =
    rw (← float_is c.args.x c.bits.result c.hex-count.result c.bits.ensures c.bits.type_inv c.hex-count.ensures.len c.hex-count.ensures.digits) c.put.ensures
