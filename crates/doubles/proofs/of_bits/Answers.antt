-- `doubles::of_bits` is proved: 0.0 / 0.0 is the NaN. Assumes nothing.
use mathlib.Core.Path.{◌≡◌, refl, sym, ◌∙◌}
use lib.Ieee.{nan, binary64, of_bits, div}
use Rattle.doubles.proofs.Fields.{is_nan_pattern, no_nan_pattern}
use Rattle.doubles.proofs.of_bits.Goals as goal

zero_by_zero : div binary64 (of_bits binary64 0) (of_bits binary64 0) ≡ nan
unfolding div of_bits
zero_by_zero = refl

pub returns-then-n-gt9218868437227405312 : goal.returns-then-n-gt9218868437227405312
returns-then-n-gt9218868437227405312 c = zero_by_zero ∙ sym (is_nan_pattern c.args.n c.if-n-gt9218868437227405312.true)

pub float_from_bits-result : goal.float_from_bits-result
float_from_bits-result c = no_nan_pattern c.args.n c.if-n-gt9218868437227405312.false
