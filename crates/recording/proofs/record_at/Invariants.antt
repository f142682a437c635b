-- `record_at` is proved. The loop's invariant: what is left, behind the part, says first what the recording says at the
-- place; only at the place itself the part is a record's first. Assumes nothing.
use Rattle.recording.proofs.Lines.{left}
use Rattle.record.specs.Records.{is_first}
use Rattle.recording.specs.Recordings.{lines_from, tape_of, first_of, record_at}
use lib.ListN.{length}
use mathlib.Core.Bool.{false}
use mathlib.Core.List.{[]}
use mathlib.Core.Path.{◌≡◌}
use Prim.Native.Nat.{◌<◌, ◌≤◌}
use Rattle.recording.proofs.record_at.Given as goal

abbrev pub invariant-loop-left : goal.invariant-loop-left
invariant-loop-left l =
    (first_of (tape_of l.part l.room l.i (lines_from [] (left l.s l.i))) ≡ record_at l.s l.at) × (l.i ≤ length l.s) × (l.at < l.i → is_first l.part ≡ false)

abbrev pub decreases-loop-left : goal.decreases-loop-left
decreases-loop-left l = l.room
