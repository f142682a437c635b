-- `time::earlier` is proved: its refusals are those of the amount, of the time and of a time that is smaller than the
-- amount; its answer is what `borrowing` gives, which has a tick where it takes one. Assumes nothing.
use Prim.Native.Nat.{ℕ}
use mathlib.Core.Path.{◌≡◌, refl, sym, ap, ◌∙◌, subst}
use mathlib.Core.Bool.{Bool, false}
use lib.Dec.{T}
use lib.Ieee.{Float, binary64, fits, to_unsigned}
use Rattle.doubles.specs.Doubles.{sign_of, whole_of, fract_of}
use Rattle.judge.specs.Answer.{accepted}
use Rattle.judge.specs.Judge.{first_fault}
use Rattle.judge.specs.declared.Faults.{Faults}
use Rattle.judge.proofs.Judged.{joined, number}
use Rattle.times.specs.Times.{time_at, shift_faults, too_little, subtracted, earlier_of, is_less, order_of}
use Rattle.times.specs.declared.time.ClockTime.{ClockTime}
use Rattle.times.proofs.time.Less.{whole_off, Well, well, less_is, whole_off_lem, tick_off, borrowed_is}
use Rattle.times.proofs.time.Shifts.{faulty, clear, below}
use Rattle.times.proofs.time.earlier.Goals as goal

-- an amount and a time with no fault: `is` is what the code joined
clean : (t : ClockTime) (x : Float) (f : Faults) → T (fits binary64 t.fraction) → T (fits binary64 x) → sign_of x ≡ false → 0 ≡ first_fault f → f ≡ shift_faults t x → Well t x
clean t x f F G s e is = well t x F G s (number e is)

-- the whole ticks are the definition's
whole : (x w : Float) (n : ℕ) → n ≡ to_unsigned 64 w → w ≡ whole_of x → n ≡ whole_off x
whole x w n e h = e ∙ ap (to_unsigned 64) h

-- the test is the definition's
test : (t : ClockTime) (x r : Float) (w : ℕ) (u : ClockTime) (b : Bool) → Well t x → w ≡ whole_off x → r ≡ fract_of x → u ≡ time_at t.clock w r → b ≡ is_less (order_of t u) → b ≡ too_little t x
test t x r w u b g W R at e = e ∙ ap (λ (v : ClockTime). is_less (order_of t v)) at ∙ less_is t x g w r W R

pub returns-in_err-accept : goal.returns-in_err-accept
unfolding earlier_of
returns-in_err-accept c =
    faulty _ _ _ _ (joined _ _ c.and.ensures c.float_faults.ensures c.clock_time_faults.ensures) _ _ c.in_err-accept.ensures c.from_residual.ensures

pub returns-then-is_less : goal.returns-then-is_less
unfolding earlier_of
returns-then-is_less c =
    let a = c.args in
    let faults = joined _ _ c.and.ensures c.float_faults.ensures c.clock_time_faults.ensures in
    let g = clean a.t a.x _ (subst T (sym c.well_formed.0.1.1.1.1.0.1) tt) (subst T (sym c.well_formed.1.0.1) tt) c.requires c.in_ok-accept.ensures faults in
    below _ false (too_little a.t a.x) (subtracted a.t a.x) faults c.in_ok-accept.ensures refl
    (sym (test a.t a.x _ _ _ _ g (whole a.x _ _ c.to_u64-w.ensures c.whole.ensures) c.fract-r.ensures c.time_at.ensures c.is_less.ensures) ∙ c.if-is_less.true)

pub overflow_sub-t : goal.overflow_sub-t
overflow_sub-t c =
    let a = c.args in
    let faults = joined _ _ c.and.ensures c.float_faults.ensures c.clock_time_faults.ensures in
    let g = clean a.t a.x _ (subst T (sym c.well_formed.0.1.1.1.1.0.1) tt) (subst T (sym c.well_formed.1.0.1) tt) c.requires c.in_ok-accept.ensures faults in
    let W = whole a.x _ _ c.to_u64-w.ensures c.whole.ensures in
    whole_off_lem a.t a.x g c.to_u64-w.result c.fract-r.result W c.fract-r.ensures
    (sym (test a.t a.x _ _ _ _ g W c.fract-r.ensures c.time_at.ensures c.is_less.ensures) ∙ c.if-is_less.false)

pub borrowing-requires : goal.borrowing-requires
borrowing-requires c =
    let a = c.args in
    let faults = joined _ _ c.and.ensures c.float_faults.ensures c.clock_time_faults.ensures in
    let g = clean a.t a.x _ (subst T (sym c.well_formed.0.1.1.1.1.0.1) tt) (subst T (sym c.well_formed.1.0.1) tt) c.requires c.in_ok-accept.ensures faults in
    let W = whole a.x _ _ c.to_u64-w.ensures c.whole.ensures in
    tick_off a.t a.x g c.to_u64-w.result c.fract-r.result W c.fract-r.ensures
    (sym (test a.t a.x _ _ _ _ g W c.fract-r.ensures c.time_at.ensures c.is_less.ensures) ∙ c.if-is_less.false)

pub returns : goal.returns
unfolding earlier_of
returns c =
    let a = c.args in
    let faults = joined _ _ c.and.ensures c.float_faults.ensures c.clock_time_faults.ensures in
    let g = clean a.t a.x _ (subst T (sym c.well_formed.0.1.1.1.1.0.1) tt) (subst T (sym c.well_formed.1.0.1) tt) c.requires c.in_ok-accept.ensures faults in
    let W = whole a.x _ _ c.to_u64-w.ensures c.whole.ensures in
    ap accepted (c.borrowing.ensures ∙ borrowed_is a.t a.x g c.to_u64-w.result c.fract-r.result W c.fract-r.ensures)
    ∙ clear _ false (too_little a.t a.x) (subtracted a.t a.x) faults c.in_ok-accept.ensures refl
    (sym (test a.t a.x _ _ _ _ g W c.fract-r.ensures c.time_at.ensures c.is_less.ensures) ∙ c.if-is_less.false)
