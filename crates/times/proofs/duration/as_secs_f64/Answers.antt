-- `duration::as_secs_f64` is proved: both numbers are below 2 ^ 53, so that a double holds them, and the literal is
-- 10 ^ 9. Assumes nothing.
use mathlib.Core.Path.{◌≡◌, refl}
use Prim.Native.Nat.{◌/◌, ◌%◌, ◌^◌}
use native.Mathlib.Omega.{arith}
use lib.IntN.{pos}
use lib.Dec.{le→leb}
use lib.Ieee.{binary64, round, of_int, in_float, of_bits}
use Rattle.times.specs.Durations.{seconds_of}
use Rattle.times.proofs.duration.as_secs_f64.Goals as goal

billion-is : of_bits binary64 0x41cd_cd65_0000_0000 ≡ of_int binary64 (pos 1000000000)
unfolding of_bits of_int round
billion-is = refl

pub int_to_float-result : goal.int_to_float-result
unfolding in_float
int_to_float-result c = le→leb (c.args.ns / 1000000000) (2 ^ 53) (omega arith)

pub int_to_float-result-2 : goal.int_to_float-result-2
unfolding in_float
int_to_float-result-2 c = le→leb (c.args.ns % 1000000000) (2 ^ 53) (omega arith)

pub returns : goal.returns
unfolding seconds_of
returns c = rw billion-is
