-- `replies::show` is proved. The loop's invariant: the bytes so far are shown, and the others are as before. Assumes
-- nothing.
use mathlib.Core.Path.{◌≡◌}
use Rattle.replies.proofs.Lfs.{shown_to}
use Rattle.replies.proofs.show.Given as goal

abbrev pub invariant-loop-b : goal.invariant-loop-b
invariant-loop-b l = l.b-items ≡ shown_to l.b-index l.fn.text
