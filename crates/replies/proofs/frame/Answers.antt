-- `replies::frame` is proved. The loop's invariant: what is put so far, with the text of the slots that are left behind
-- it, is the whole text. Assumes nothing.
use native.Mathlib.Omega.{arith}
use mathlib.Core.Path.{refl, ap, ◌∙◌}
use Rattle.digits.specs.Puts.{line_of}
use Rattle.digits.specs.Outs.{put_in}
use Rattle.digits.specs.declared.Out.{Out}
use Rattle.replies.specs.Replies.{ticks_text}
use Rattle.replies.proofs.Slots.{put_one, put_none, none_left}
use Rattle.replies.proofs.frame.Goals as goal
use Rattle.replies.proofs.frame.Goals.{then-k, else-k}

pub loop-slot-init : goal.loop-slot-init
loop-slot-init c = refl

pub loop-slot-preserved : goal.loop-slot-preserved
loop-slot-preserved c =
    elim c.if-k.branch [
      | then-k w ↦ rw w.out-is (put_one _ _ _ _ (omega (arith, c.told-keys)) (omega (arith, c.told-reports)) _ _ _ w.if-k.true w.tick.ensures c.loop-slot.invariant)
      | else-k w ↦ rw w.out-is (put_none _ _ _ _ (omega (arith, c.told-keys)) (omega (arith, c.told-reports)) _ _ w.if-k.false c.loop-slot.invariant)
    ]

pub returns : goal.returns
returns c =
    none_left _ _ _ _ _ (omega (arith, c.told-keys)) c.end.ensures c.loop-slot.invariant
    ∙ ap (λ (p : Out). put_in p (line_of (ticks_text 0 c.args.keys.now c.args.reports.now))) c.put.ensures
