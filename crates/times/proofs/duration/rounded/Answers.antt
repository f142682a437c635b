-- `duration::rounded` is proved: each of its answers is a law of `Halves`. Assumes nothing.
use native.Mathlib.Omega.{arith}
use Rattle.times.proofs.duration.Halves.{back_le, n_lt, down_to, up_from, up_by_low, to_even}
use Rattle.times.proofs.duration.rounded.Goals as goal

pub overflow_sub-rest : goal.overflow_sub-rest
overflow_sub-rest c = back_le c.args.q c.args.k

pub returns-then-rest-half : goal.returns-then-rest-half
returns-then-rest-half c = down_to c.args.q c.args.k (omega arith) (omega arith) (omega arith) c.if-rest-half.true

pub overflow_add-result : goal.overflow_add-result
overflow_add-result c = omega (arith, n_lt c.args.q c.args.k (omega arith) (omega arith) (omega arith))

pub returns-then-rest-half-2 : goal.returns-then-rest-half-2
returns-then-rest-half-2 c = up_from c.args.q c.args.k (omega arith) (omega arith) (omega arith) c.if-rest-half-2.true

pub overflow_add-result-then-low-gt0 : goal.overflow_add-result-then-low-gt0
overflow_add-result-then-low-gt0 c = omega (arith, n_lt c.args.q c.args.k (omega arith) (omega arith) (omega arith))

pub returns-then-low-gt0 : goal.returns-then-low-gt0
returns-then-low-gt0 c =
    up_by_low c.args.q c.args.k (omega arith) (omega arith) (omega arith) c.if-rest-half.false c.if-rest-half-2.false c.if-low-gt0.true

pub overflow_add-result-2 : goal.overflow_add-result-2
overflow_add-result-2 c = omega (arith, n_lt c.args.q c.args.k (omega arith) (omega arith) (omega arith))

pub returns : goal.returns
returns c =
    to_even c.args.q c.args.k (omega arith) (omega arith) (omega arith) c.if-rest-half.false c.if-rest-half-2.false c.if-low-gt0.false
