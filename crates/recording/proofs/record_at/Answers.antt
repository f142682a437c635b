-- `record_at` is proved. The loop's invariant: what is left, behind the part, says first what the recording says at the
-- place; only at the place itself the part is a record's first. Assumes nothing.
use Rattle.recording.proofs.Lines.{left_on, ends_inside, no_room_lem, judges}
use Rattle.record.proofs.Parts.{not_first}
use Rattle.text.proofs.Bytes.{onward}
use Rattle.recording.specs.Recordings.{lines_from, tape_of, first_of}
use lib.ListN.{drop_of_length-le}
use lib.Seq.{length-take-le}
use mathlib.Core.Path.{◌≡◌, refl, sym, ap, ◌∙◌}
use native.Mathlib.Omega.{arith}
use Prim.Native.Nat.{◌+◌}
use Rattle.recording.proofs.record_at.Goals as goal

pub returns-then-at-s : goal.returns-then-at-s
unfolding tape_of lines_from
returns-then-at-s c = rw (drop_of_length-le _ c.if-at-s.true)

pub loop-left-init : goal.loop-left-init
loop-left-init c = (rw onward refl, omega arith, λ h. absurd (omega arith))

pub returns-then-n-left : goal.returns-then-n-left
returns-then-n-left c =
    ap first_of (sym (ends_inside _ _ _ _ _ c.line_length-n.ensures c.if-n-left.true (λ h. c.loop-left.invariant.2 (omega arith)))) ∙ c.loop-left.invariant.0

pub returns-then-n-room : goal.returns-then-n-room
returns-then-n-room c =
    ap first_of (sym (no_room_lem _ _ _ _ _ c.line_length-n.ensures c.if-n-room.true c.if-n-left.false)) ∙ c.loop-left.invariant.0

pub slice_bounds-judge-end : goal.slice_bounds-judge-end
slice_bounds-judge-end c = sym (length-take-le _ _ c.line_length-n.ensures.in_line.inside)

pub loop-left-preserved : goal.loop-left-preserved
loop-left-preserved c =
    let told = sym c.in-Next.is ∙ c.judge.ensures in
    (rw left_on (ap first_of (sym (judges _ _ _ _ _ c.line_length-n.ensures c.if-n-room.false c.if-n-left.false _ told)) ∙ c.loop-left.invariant.0), omega arith, λ h. not_first _ _ _ (sym told))

pub returns-in-Whole : goal.returns-in-Whole
returns-in-Whole c =
    let told = sym c.in-Whole.is ∙ c.judge.ensures in
    let behind : c.loop-left.i + c.line_length-n.result + 1 ≡ c.loop-left.i + (c.line_length-n.result + 1) = omega arith in
    rw behind (ap first_of (sym (judges _ _ _ _ _ c.line_length-n.ensures c.if-n-room.false c.if-n-left.false _ told)) ∙ c.loop-left.invariant.0)

pub returns-in-Bad : goal.returns-in-Bad
returns-in-Bad c =
    let told = sym c.in-Bad.is ∙ c.judge.ensures in
    ap first_of (sym (judges _ _ _ _ _ c.line_length-n.ensures c.if-n-room.false c.if-n-left.false _ told)) ∙ c.loop-left.invariant.0
