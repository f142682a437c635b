-- `text::spelled` is proved. The loop's invariant: 64 bits hold the number so far, and reading on behind it gives the
-- whole answer. Assumes nothing.
use Prim.Native.Nat.{◌^◌, ◌<◌}
use mathlib.Core.Path.{◌≡◌}
use lib.ListN.{drop}
use Rattle.text.specs.Numbers.{number_from}
use Rattle.text.proofs.spelled.Given as goal

abbrev pub invariant-loop-b : goal.invariant-loop-b
invariant-loop-b l = (l.v < 2 ^ 64) × (number_from l.base l.v (drop l.b-index l.s) ≡ number_from l.base 0 l.s)
