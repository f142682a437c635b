-- `power` meets its contract: at the loop's head p is the product of as many factors as are counted, and a turn makes
-- it that of one more. Assumes nothing.
use Prim.Native.Nat.{ℕ, zero, suc, ◌+◌, ◌≤◌}
use mathlib.Core.Path.{◌≡◌, refl}
use native.Mathlib.Numerals.{add-one}
use native.Mathlib.Omega.{arith}
use lib.Ieee.{Float, of_bits, binary64, mul}
use Rattle.times.specs.Easings.{power_of}
use Rattle.times.proofs.tween.power.Goals as goal

-- one factor more
more : (x : Float) (i : ℕ) → 1 ≤ i → power_of x (i + 1) ≡ mul binary64 (power_of x i) x
unfolding power_of
more x zero h = absurd (omega arith)
more x (suc i) h = rw add-one

pub returns-then-n-eq0 : goal.returns-then-n-eq0
unfolding power_of of_bits
returns-then-n-eq0 c = rw c.if-n-eq0.true

pub loop-init : goal.loop-init
unfolding power_of
loop-init c = refl

pub loop-preserved : goal.loop-preserved
loop-preserved c = rw (c.loop.invariant, more c.args.x c.loop.counter c.loop.auto.counter)
