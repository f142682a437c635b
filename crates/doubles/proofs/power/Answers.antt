-- `power` is proved: below 2 ^ 52 a power of two is a subnormal's digits, and from there on an exponent's field.
-- Assumes nothing.
use Prim.Native.Nat.{◌^◌, ◌<◌}
use native.Mathlib.Omega.{arith}
use lib.Pow.{pow-lt}
use Rattle.doubles.proofs.power.Goals as goal

pub overflow_add-s : goal.overflow_add-s
overflow_add-s c = let l : 2 ^ c.args.p < 2 ^ 52 = pow-lt c.if-p-lt52.true in omega arith
