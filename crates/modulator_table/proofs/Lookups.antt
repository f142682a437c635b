-- A refused set leaves the table; and what the proofs of the calls cite, as one set. Assumes nothing.
use Prim.Native.Nat.{ℕ}
use mathlib.Core.Path.{◌≡◌}
use mathlib.Core.List.{List}
use lib.ListN.{get_or, set}
use lib.Seq.{set-get_or}
use Rattle.ids.proofs.Places.{found_inside, room_inside, read_at_lem}
use Rattle.judge.proofs.Judged.{never_zero_number}
use Rattle.modulator_table.specs.declared.Modulator.{Modulator}
use Rattle.modulator_table.specs.declared.Slot.{Slot}

-- a slot's modulator that is put back
pub put_back : (l : List Slot) (i : ℕ) (d : Slot) (m : Modulator) → (get_or l i d).modulator ≡ m → set l i (record { modulator = m }) ≡ l
put_back l i d m e = rw (← e, set-get_or l i d)

pub ruleset found = (found_inside, room_inside, read_at_lem, never_zero_number, put_back)
