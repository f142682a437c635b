-- `doubles::bits` is proved: at a NaN it returns the pattern that `to_bits` writes. Assumes nothing.
use mathlib.Core.Path.{sym, ap}
use lib.Ieee.{binary64, to_bits}
use Rattle.doubles.proofs.Fields.{differs, equals_itself}
use Rattle.doubles.proofs.bits.Goals as goal

pub returns-then-x : goal.returns-then-x
unfolding to_bits
returns-then-x c = sym (ap (to_bits binary64) (differs c.args.x c.if-x.true))

pub float_to_bits-result : goal.float_to_bits-result
float_to_bits-result c = equals_itself c.args.x c.if-x.false
