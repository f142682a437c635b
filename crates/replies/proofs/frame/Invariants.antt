-- `replies::frame` is proved. The loop's invariant: what is put so far, with the text of the slots that are left behind
-- it, is the whole text. Assumes nothing.
use Rattle.replies.proofs.Slots.{Left}
use Rattle.replies.proofs.frame.Given as goal

abbrev pub invariant-loop-slot : goal.invariant-loop-slot
invariant-loop-slot l = Left l.keys l.reports l.initial.out l.out l.slot
