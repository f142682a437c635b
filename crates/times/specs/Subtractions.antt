-- Document 02, Req 01, for a reader of the rule: what a subtraction of a double leaves, and when there is too little.
-- In whole numbers, units of 2^-1074, of which 2^1021 are 2^-53. RULES, subtract-double and before-zero. Assumes
-- nothing.
use Rattle.std.specs.Prelude.{◌+◌, ◌^◌, ◌≤◌, ◌<◌, ◌≡◌, false, Float}
use Rattle.doubles.specs.Doubles.{scaled}
use Rattle.judge.specs.Answer.{Answer, refused}
use Rattle.judge.specs.Judge.{first_fault, bad_fraction}
use Rattle.judge.specs.Numbers.{BEFORE_ZERO}
use Rattle.times.specs.Times.{exact_of, shift_faults}
use Rattle.times.specs.declared.time.ClockTime.{ClockTime}

-- the time u, that is left where x was taken off t: RULES, subtract-double
pub record Earlier (t : ClockTime) (x : Float) (u : ClockTime) : Type 0 where
  pub clock : u.clock ≡ t.clock
  -- 0 or more, below 1, and not -0.0
  pub fraction : bad_fraction u.fraction ≡ false
  pub not_later : exact_of u ≤ exact_of t
  -- u + x is t, but for 2^-53 on either side
  pub above : exact_of u + scaled x ≤ exact_of t + 2 ^ 1021
  pub below : exact_of t ≤ exact_of u + scaled x + 2 ^ 1021

-- the answer a, where x is to be taken off t: 12 where nothing is wrong with the arguments and the time is smaller than
-- the amount, and nowhere else: RULES, before-zero
pub record BeforeZero (t : ClockTime) (x : Float) (a : Answer ClockTime) : Type 0 where
  pub given : first_fault (shift_faults t x) ≡ 0 → exact_of t < scaled x → a ≡ refused BEFORE_ZERO
  pub only : a ≡ refused BEFORE_ZERO → (first_fault (shift_faults t x) ≡ 0) × (exact_of t < scaled x)
