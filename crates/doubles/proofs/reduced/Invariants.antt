-- After i turns what is left of n * 2 ^ i. Assumes nothing.
use Prim.Native.Nat.{◌*◌, ◌%◌, ◌^◌, ◌<◌}
use mathlib.Core.Path.{◌≡◌}
use Rattle.doubles.proofs.reduced.Given as goal

abbrev pub invariant-loop-i : goal.invariant-loop-i
invariant-loop-i l = (l.r < l.d) × (l.r ≡ l.n * 2 ^ l._i % l.d)
