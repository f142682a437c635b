-- `turn_modulators` meets its contract: the turns that are left give the whole answer, and what is seen shows the slots
-- as they stand. Assumes nothing.
use native.Mathlib.Omega.{arith}
use Rattle.station.proofs.frame.ModulatorTurns.{left_all, left_skipped, left_made, left_none}
use Rattle.station.proofs.frame.turn_modulators.Goals as goal
use Rattle.station.proofs.frame.turn_modulators.Goals.{then-keys-i, else-keys-i}

pub loop-i-init : goal.loop-i-init
loop-i-init c = left_all _ _ _ _ (omega arith) c.requires

pub loop-i-preserved : goal.loop-i-preserved
loop-i-preserved c =
    elim c.if-keys-i.branch [
      | then-keys-i w ↦ left_made _ _ _ _ c.loop-i.slots c.loop-i.info _ _ _ _ (omega arith) c.loop-i-test.true c.loop-i.invariant _ _ _ w.if-keys-i.true w.turn_slot.ensures w.value.ensures w.slots-is w.info-is
      | else-keys-i w ↦ left_skipped _ _ _ _ c.loop-i.slots c.loop-i.info _ _ _ _ (omega arith) c.loop-i-test.true c.loop-i.invariant w.if-keys-i.false w.slots-is w.info-is
    ]

pub returns-clause-slots_turned : goal.returns-clause-slots_turned
returns-clause-slots_turned c = left_none _ _ _ _ _ _ _ c.loop-i-test.false c.loop-i.invariant

pub returns-clause-info_seeing : goal.returns-clause-info_seeing
returns-clause-info_seeing c = c.loop-i.invariant.shown
