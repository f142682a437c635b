-- Any two outcomes that a statement allows coincide, for each public function of the module: `Same` of the crate
-- `doubles` says it of the very clause that the check reads off the source, the result and what the slot or the clock
-- is at exit. No two results tell the same. RULES, one-outcome. Assumes nothing.
use mathlib.Core.Path.{refl}
use Rattle.doubles.proofs.Outcomes.{Same, equal}
use Rattle.clock.proofs.Outcomes.{same_moved}
use Rattle.station.proofs.turns.turn_slot.Reads as turn-slot
use Rattle.station.proofs.turns.turn_slot.Kinds as turn-slot-kinds
use Rattle.station.proofs.turns.turn_clock.Reads as turn-clock
use Rattle.station.proofs.turns.turn_clock.Kinds as turn-clock-kinds

pub one_turn_slot : Same 2 turn-slot-kinds.ps turn-slot-kinds.r turn-slot.Post (λ κs s. s.1.0.now)
one_turn_slot κs a x y s t p q = (refl, equal p q)

pub one_turn_clock : Same 2 turn-clock-kinds.ps turn-clock-kinds.r turn-clock.Post (λ κs s. s.1.0.now)
one_turn_clock κs a x y s t p q = same_moved _ _ _ x y (equal p.0 q.0) p.1 q.1
