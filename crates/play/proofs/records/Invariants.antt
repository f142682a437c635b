-- `records` meets its contract. The loop's invariant: the records that are left end, on the station as it stands, where
-- all of them end on the one that it began with. Assumes nothing.
use Prim.Native.Nat.{◌-◌, ◌≤◌}
use mathlib.Core.Path.{◌≡◌}
use lib.ListN.{length}
use Rattle.recording.specs.Recordings.{tape_at}
use Rattle.play.specs.Asked.{taken_on}
use Rattle.play.specs.Replays.{end_of}
use Rattle.play.proofs.records.Given as goal

abbrev pub invariant-loop-r : goal.invariant-loop-r
invariant-loop-r l =
    record {
      ends : end_of taken_on l.count l.st (tape_at l.s l.at) ≡ end_of taken_on 0 l.initial.st (tape_at l.s 0);
      within : l.count ≤ l.at;
    }

abbrev pub decreases-loop-r : goal.decreases-loop-r
decreases-loop-r l = length l.s - l.at
