-- `report::reports` is proved. The loop's invariant: what is put so far, with the lines of the slots that are left
-- behind it, is the lines of all slots, and the slots so far have no more than 96 bytes each; it is put into the buffer
-- that was lent; and a table that was read has 16 keys. Assumes nothing.
use Prim.Native.Nat.{◌<◌}
use mathlib.Core.Path.{◌≡◌}
use lib.ListN.{length}
use Rattle.digits.specs.Outs.{placed}
use Rattle.report.proofs.Living.{Left}
use Rattle.report.proofs.reports.Given as goal

abbrev pub invariant-loop-slot : goal.invariant-loop-slot
invariant-loop-slot l =
    record {
      left : Left l.t (placed l.initial.text) (placed l.text) l.slot;
      loan : l.text.bytes.ghost_name ≡ l.initial.text.bytes.ghost_name;
      keys : 0 < l.slot → length l.t.keys ≡ 16;
    }
