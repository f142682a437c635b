-- `records` meets its contract. The loop's invariant: the records that are left end, on the station as it stands, where
-- all of them end on the one that it began with. Assumes nothing.
use native.Mathlib.Omega.{arith}
use mathlib.Core.Path.{refl, sym, ap, ◌∙◌}
use Rattle.recording.proofs.Places.{there}
use Rattle.play.specs.Asked.{taken_on}
use Rattle.play.specs.Replays.{replayed}
use Rattle.play.proofs.Turns.{refuses, accepts, ends, ends_inside, ends_at}
use Rattle.play.proofs.records.Goals as goal

pub loop-r-init : goal.loop-r-init
loop-r-init c = record { ends = refl; within = omega arith }

-- ---- a record that is refused
pub returns-in-Err : goal.returns-in-Err
returns-in-Err c =
    let d = there _ _ _ _ c.in-Record.ensures in
    rw c.in-Err.ensures.1 (ap (replayed _) (refuses taken_on _ _ _ _ d (sym c.in-Err.ensures.0) ∙ c.loop-r.invariant.ends))

-- ---- a record that is accepted
pub overflow_add-count : goal.overflow_add-count
overflow_add-count c =
    let d = there _ _ _ _ c.in-Record.ensures in
    omega (arith, d.past, d.within, c.loop-r.invariant.within)

pub loop-r-smaller : goal.loop-r-smaller
loop-r-smaller c =
    let d = there _ _ _ _ c.in-Record.ensures in
    omega (arith, d.past, d.within)

pub loop-r-preserved : goal.loop-r-preserved
loop-r-preserved c =
    let d = there _ _ _ _ c.in-Record.ensures in
    record {
      ends = accepts taken_on _ _ _ _ d (sym c.in_default.ensures.0) ∙ c.loop-r.invariant.ends;
      within = omega (arith, d.past, c.loop-r.invariant.within);
    }

-- ---- the end
pub returns-in-End : goal.returns-in-End
returns-in-End c = ap (replayed _) (ends taken_on _ _ _ _ _ c.record_at.ensures c.in-End.is ∙ c.loop-r.invariant.ends)

pub returns-in-Unfinished : goal.returns-in-Unfinished
returns-in-Unfinished c = rw c.trace.ensures (ap (replayed _) (ends_inside taken_on _ _ _ _ _ c.record_at.ensures c.in-Unfinished.is ∙ c.loop-r.invariant.ends))

pub returns-in-Bad : goal.returns-in-Bad
returns-in-Bad c = rw c.trace-in-Bad.ensures (ap (replayed _) (ends_at taken_on _ _ _ _ _ c.record_at.ensures c.in-Bad.is ∙ c.loop-r.invariant.ends))
