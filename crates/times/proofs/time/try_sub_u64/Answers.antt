-- `time::try_sub_u64` is proved: its refusals are those of the time and of a difference below 0. Assumes nothing.
use Rattle.std.proofs.Common.{◌≡◌, ℕ, ◌-◌, ◌≤◌, ◌∙◌, refl, true, false, ltb, arith, Option, Some, None, Ok, Err, ok_or, SomeIff}
use borrow.Author.Tests.{lt-ltb, le-ltb}
use Rattle.judge.specs.declared.Refusal.{Refusal}
use Rattle.judge.specs.declared.Refusal.TheVariants.{BeforeZero}
use Rattle.judge.proofs.Judged.{handed_on}
use Rattle.times.specs.Times.{try_sub_ticks_of}
use Rattle.times.proofs.time.Shifts.{faulty, clear, below}
use Rattle.times.proofs.time.try_sub_u64.Goals as goal

-- k ticks off n, as `checked_sub` has them: there are too few, or they are taken
module _ (k n : ℕ) where
  short : (o : Option ℕ) (e : Refusal) → SomeIff o (k ≤ n) (n - k) → Err e ≡ ok_or o BeforeZero → (ltb n k ≡ true) × (e ≡ BeforeZero)
  short None e h is = (lt-ltb _ _ (omega (arith, h)), cc)
  short (Some m) e h is = cc

  taken : (o : Option ℕ) (m : ℕ) → SomeIff o (k ≤ n) (n - k) → Ok m ≡ ok_or o BeforeZero → (ltb n k ≡ false) × (m ≡ n - k)
  taken None m h is = cc
  taken (Some x) m h is = (le-ltb _ _ h.0, cc)

pub returns-in_err-accept : goal.returns-in_err-accept
unfolding try_sub_ticks_of
returns-in_err-accept c = faulty _ _ _ _ c.clock_time_faults.ensures _ _ c.in_err-accept.ensures c.from_residual.ensures

pub returns-in_err-ticks : goal.returns-in_err-ticks
unfolding try_sub_ticks_of
returns-in_err-ticks c =
    let s = short c.args.n c.args.t.ticks c.checked_sub.result _ c.checked_sub.ensures c.in_err-ticks.ensures.value in
    handed_on _ _ c.from_residual-in_err-ticks.ensures
    ∙ rw s.1 (below _ _ _ _ c.clock_time_faults.ensures c.in_ok-accept.ensures refl s.0)

pub returns : goal.returns
unfolding try_sub_ticks_of
returns c =
    let s = taken c.args.n c.args.t.ticks c.checked_sub.result _ c.checked_sub.ensures c.in_ok-ticks.ensures.value in
    rw (c.time_at.ensures, s.1) (clear _ _ _ _ c.clock_time_faults.ensures c.in_ok-accept.ensures refl s.0)
