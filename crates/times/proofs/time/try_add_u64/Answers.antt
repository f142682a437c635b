-- `time::try_add_u64` is proved: its refusals are those of the time and of a count that is full. Assumes nothing.
use mathlib.Core.Path.{refl, ◌∙◌}
use mathlib.Core.Bool.{false}
use Prim.Native.Nat.{◌+◌}
use Rattle.judge.proofs.Judged.{handed_on}
use Rattle.times.specs.Times.{time_at, too_many, try_add_ticks_of}
use Rattle.times.proofs.time.Shifts.{faulty, clear, filled, held, too_many_lem}
use Rattle.times.proofs.time.try_add_u64.Goals as goal

pub returns-in_err-accept : goal.returns-in_err-accept
unfolding try_add_ticks_of
returns-in_err-accept c = faulty _ _ _ _ c.clock_time_faults.ensures _ _ c.in_err-accept.ensures c.from_residual.ensures

pub returns-in_err-ticks : goal.returns-in_err-ticks
unfolding try_add_ticks_of
returns-in_err-ticks c =
    let a = c.args in
    let full = too_many_lem a.t.ticks a.n _ c.in_err-ticks.ensures in
    handed_on _ _ c.from_residual-in_err-ticks.ensures
    ∙ rw full.1
    (filled _ (too_many a.t.ticks a.n) false (time_at a.t.clock (a.t.ticks + a.n) a.t.fraction) c.clock_time_faults.ensures c.in_ok-accept.ensures full.0)

pub returns : goal.returns
unfolding try_add_ticks_of
returns c =
    let h = held c.args.t.ticks c.args.n _ c.in_ok-ticks.ensures in
    rw (c.time_at.ensures, h.sum)
    (clear _ _ _ _ c.clock_time_faults.ensures c.in_ok-accept.ensures h.room refl)
