-- Demand 1: the number that a call is given which moves a time by whole ticks or by a double. RULES, order. Assumes
-- nothing.
use Prim.Native.Nat.{ℕ, ◌+◌}
use mathlib.Core.Path.{◌≡◌, refl, ap, ◌∙◌}
use mathlib.Core.Bool.{Bool, true, false, not, ◌&&◌, cond}
use lib.Dec.{ltb}
use lib.Ieee.{Float, nan, inf, fin, neg}
use Rattle.doubles.specs.Doubles.{sign_of}
use Rattle.judge.specs.Answer.{accepted, refused, is_refused, number_told}
use Rattle.judge.specs.Judge.{of_shift, both_faults, float_faults}
use Rattle.judge.specs.Numbers.{TICKS_FULL}
use Rattle.judge.specs.declared.Faults.{Faults}
use Rattle.times.specs.Times.{clock_time_faults, too_many, shift_faults, ticks_more, too_little, try_add_ticks_of, try_sub_ticks_of, later_of, earlier_of, try_add_float_of, try_sub_float_of}
use Rattle.times.specs.declared.time.ClockTime.{ClockTime}
use Rattle.demands.specs.Entries.{Shift, add_ticks, sub_ticks, add_float, sub_float, shifted_of}
use Rattle.demands.specs.Conditions.{past, past_by, smaller}
use Rattle.demands.specs.Conditions as conditions
use Rattle.demands.specs.Order.{order, holds, first_in}
use Rattle.demands.proofs.lemmas.Asked.{told_given}

-- TICKS_FULL is given where the sum passes: RULES, ticks-full
full_where : (n k : ℕ) → too_many n k ≡ past (n + k)
full_where n k = go (past (n + k))
  where
    go : (b : Bool) → is_refused (cond b (refused TICKS_FULL) (accepted (n + k))) ≡ b
    go true = refl
    go false = refl

-- a double and its opposite are wrong alike
opposite_faults : (x : Float) → float_faults (neg x) ≡ float_faults x
unfolding neg
opposite_faults nan = refl
opposite_faults (inf s) = refl
opposite_faults (fin s m e) = refl

module _ (t : ClockTime) where
  -- by these faults, whether the ticks are too many, and whether the time is smaller
  abbrev given : Faults → Bool → Bool → ℕ
  given f b z = first_in order (holds (of_shift f b z))

  later : (x : Float) → number_told (later_of t x) ≡ given (shift_faults t x) (past_by t x) false
  unfolding later_of
  later x = told_given (of_shift (shift_faults t x) (too_many t.ticks (ticks_more t x)) false) _ ∙ ap (λ (b : Bool). given (shift_faults t x) b false) (full_where t.ticks (ticks_more t x))

  earlier : (x : Float) → number_told (earlier_of t x) ≡ given (shift_faults t x) false (smaller t x)
  unfolding earlier_of
  earlier x = told_given (of_shift (shift_faults t x) false (too_little t x)) _

  -- the same faults, of the opposite amount
  opposite : (x : Float) (b z : Bool) → given (shift_faults t (neg x)) b z ≡ given (shift_faults t x) b z
  opposite x b z = ap (λ (f : Faults). given (both_faults f (clock_time_faults t)) b z) (opposite_faults x)

  pub shift_number : (s : Shift) → number_told (shifted_of t s) ≡ first_in order (holds (conditions.of_shift t s))
  unfolding try_add_ticks_of try_sub_ticks_of try_add_float_of try_sub_float_of
  shift_number (add_ticks n) = told_given (of_shift (clock_time_faults t) (too_many t.ticks n) false) _ ∙ ap (λ (b : Bool). given (clock_time_faults t) b false) (full_where t.ticks n)
  shift_number (sub_ticks n) = told_given (of_shift (clock_time_faults t) false (ltb t.ticks n)) _
  shift_number (add_float x) = go (sign_of x)
    where
      go : (b : Bool) → number_told (cond b (earlier_of t (neg x)) (later_of t x)) ≡ given (shift_faults t x) (not b && past_by t x) (b && smaller t (neg x))
      go true = earlier (neg x) ∙ opposite x false (smaller t (neg x))
      go false = later x
  shift_number (sub_float x) = go (sign_of x)
    where
      go : (b : Bool) → number_told (cond b (later_of t (neg x)) (earlier_of t x)) ≡ given (shift_faults t x) (b && past_by t (neg x)) (not b && smaller t x)
      go true = later (neg x) ∙ opposite x (past_by t (neg x)) false
      go false = earlier x
