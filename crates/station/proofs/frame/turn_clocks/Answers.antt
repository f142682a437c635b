-- `turn_clocks` meets its contract: the turns that are left give the whole answer, and what is seen shows the clocks as
-- they stand. Assumes nothing.
use native.Mathlib.Omega.{arith}
use Rattle.std.proofs.lemmas.Result.{err_from_is_err_and}
use Rattle.station.proofs.frame.ClockTurns.{left_all, left_skipped, left_made, left_stopped, left_none}
use Rattle.station.proofs.frame.turn_clocks.Goals as goal
use Rattle.station.proofs.frame.turn_clocks.Goals.{then-keys-i+in_ok-reports, else-keys-i}

pub loop-i-init : goal.loop-i-init
loop-i-init c = left_all _ _ _ _ (omega arith) c.requires

-- a clock refuses
pub returns-in_err-reports : goal.returns-in_err-reports
returns-in_err-reports c =
    let p = err_from_is_err_and c.from_residual.result c.from_residual.ensures.1 in
    rw (p.1, p.2) (left_stopped _ _ _ _ c.loop-i.clocks c.loop-i.info _ _ _ (omega arith) c.loop-i-test.true c.loop-i.invariant _ _ c.if-keys-i.true c.in_err-reports.ensures.turned)

pub loop-i-preserved : goal.loop-i-preserved
loop-i-preserved c =
    elim c.if-keys-i.branch [
      | then-keys-i+in_ok-reports w ↦
          left_made _ _ _ _ c.loop-i.clocks c.loop-i.info _ _ _ (omega arith) c.loop-i-test.true c.loop-i.invariant _ _ _ _ _ _ _ w.if-keys-i.true w.in_ok-reports.ensures.turned w.info.ensures w.clocks-is w.info-is w.reports-is
      | else-keys-i w ↦
          left_skipped _ _ _ _ c.loop-i.clocks c.loop-i.info _ _ _ (omega arith) c.loop-i-test.true c.loop-i.invariant _ _ _ w.if-keys-i.false w.clocks-is w.info-is w.reports-is
    ]

pub returns : goal.returns
returns c = left_none _ _ _ _ _ _ _ _ c.loop-i-test.false c.loop-i.invariant
