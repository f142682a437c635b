-- `time::later` is proved: its refusals are those of the amount, of the time and of a count that is full. Assumes
-- nothing.
use mathlib.Core.Path.{refl, ap, ◌∙◌}
use mathlib.Core.Bool.{false}
use Prim.Native.Nat.{◌+◌}
use lib.Ieee.{binary64, add, to_unsigned}
use Rattle.doubles.specs.Doubles.{fract_of}
use Rattle.judge.proofs.Judged.{joined, handed_on}
use Rattle.ticks.specs.WholeTicks.{more_of}
use Rattle.times.specs.Times.{time_at, too_many, ticks_more, later_of}
use Rattle.times.proofs.time.Shifts.{faulty, clear, filled, held, too_many_lem}
use Rattle.times.proofs.time.later.Goals as goal

pub returns-in_err-accept : goal.returns-in_err-accept
unfolding later_of
returns-in_err-accept c =
    faulty _ _ _ _ (joined _ _ c.and.ensures c.float_faults.ensures c.clock_time_faults.ensures) _ _ c.in_err-accept.ensures c.from_residual.ensures

pub returns-in_err-ticks : goal.returns-in_err-ticks
unfolding later_of
returns-in_err-ticks c =
    let a = c.args in
    let n = ticks_more a.t a.x in
    let full = too_many_lem a.t.ticks n _ (c.in_err-ticks.ensures ∙ ap (more_of a.t.ticks) (c.to_u64.ensures ∙ ap (to_unsigned 64) c.whole.ensures)) in
    handed_on _ _ c.from_residual-in_err-ticks.ensures
    ∙ rw full.1
    (filled _ (too_many a.t.ticks n) false (time_at a.t.clock (a.t.ticks + n) (fract_of (add binary64 a.t.fraction a.x)))
    (joined _ _ c.and.ensures c.float_faults.ensures c.clock_time_faults.ensures) c.in_ok-accept.ensures full.0)

pub returns : goal.returns
unfolding later_of
returns c =
    let a = c.args in
    let h = held a.t.ticks (ticks_more a.t a.x) _ (c.in_ok-ticks.ensures ∙ ap (more_of a.t.ticks) (c.to_u64.ensures ∙ ap (to_unsigned 64) c.whole.ensures)) in
    rw (c.time_at.ensures, c.fract.ensures, h.sum)
    (clear _ _ _ _ (joined _ _ c.and.ensures c.float_faults.ensures c.clock_time_faults.ensures) c.in_ok-accept.ensures h.room refl)
