-- `replies::show` is proved. The loop's invariant: the bytes so far are shown, and the others are as before. Assumes
-- nothing.
use native.Mathlib.Omega.{arith}
use mathlib.Core.Path.{refl}
use Rattle.replies.proofs.Lfs.{turn, all_shown}
use Rattle.replies.proofs.show.Goals as goal

pub loop-b-init : goal.loop-b-init
loop-b-init c = refl

pub loop-b-preserved : goal.loop-b-preserved
loop-b-preserved c = turn _ _ _ _ _ c.loop-b.invariant c.loop-b-test.true c.shown.ensures

pub returns : goal.returns
returns c = all_shown c.args.text.now _ c.loop-b.b-index c.loop-b.invariant (omega arith)
