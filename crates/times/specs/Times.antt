-- Document 01, "clock/time.rs": a time is its clock, whole ticks and a fraction: RULES, clock-time. How it is made,
-- moved and compared; a double is subtracted by the rule of document 02, Req 01. Nothing here calls itself. Assumes
-- nothing.
use Prim.Native.Nat as nat
use Rattle.std.specs.Prelude.{ℕ, ◌+◌, ◌-◌, ◌*◌, ◌^◌, Bool, true, false, ◌&&◌, cond, ltb, eqb, Float, Option, None, Some}
use Rattle.std.specs.declared.cmp.Ordering.{Ordering}
use Rattle.std.specs.declared.cmp.Ordering.TheVariants.{Less, Equal, Greater}
use Rattle.std.specs.Float.{binary64}
use Rattle.std.specs.Float.Ieee.{add, sub, neg, lt, eq, to_unsigned}
use Rattle.doubles.specs.Doubles.{sign_of, whole_of, fract_of, zero_f, one_f, scaled}
use Rattle.ticks.specs.WholeTicks.{more_of}
use Rattle.judge.specs.Answer.{Answer, accepted, is_refused}
use Rattle.judge.specs.Judge.{of_shift, both_faults, float_faults, fraction_faults, time_faults, answered, judged}
use Rattle.judge.specs.declared.Faults.{Faults}
use Rattle.times.specs.declared.time.ClockId.{ClockId}
use Rattle.times.specs.declared.time.ClockTime.{ClockTime}

-- a time of a clock; every one is made so: RULES, clock-time
abbrev pub time_at : ClockId → ℕ → Float → ClockTime
time_at c n f = record { clock = c; ticks = n; fraction = f }

-- ticks and fraction as one whole number, in units of 2^-1074, with nothing rounded: RULES, exact-size
abbrev pub place_at : ℕ → Float → ℕ
place_at n f = n * 2 ^ 1074 + scaled f

-- a time as an exact number
abbrev pub exact_of : ClockTime → ℕ
exact_of t = place_at t.ticks t.fraction

-- what is wrong with a time, wherever one is given: RULES, bad-time
abbrev pub clock_time_faults : ClockTime → Faults
clock_time_faults t = fraction_faults t.fraction

-- whole ticks, and no fraction: RULES, time-from-ticks
abbrev pub from_ticks_of : ClockId → ℕ → ClockTime
from_ticks_of c n = time_at c n zero_f

-- the whole part as ticks, the rest as fraction; BAD_TIME for a minus sign: RULES, time-from-double and whole-number
unfoldable pub try_from_float_of : ClockId → Float → Answer ClockTime
try_from_float_of c x = judged (both_faults (float_faults x) (time_faults (sign_of x))) (accepted (time_at c (to_unsigned 64 x) (fract_of x)))

-- TICKS_FULL, for k ticks on top of n: RULES, ticks-full
abbrev pub too_many : ℕ → ℕ → Bool
too_many n k = is_refused (more_of n k)

-- the fraction stays: RULES, add-ticks
unfoldable pub try_add_ticks_of : ClockTime → ℕ → Answer ClockTime
try_add_ticks_of t n = answered (of_shift (clock_time_faults t) (too_many t.ticks n) false) (time_at t.clock (t.ticks + n) t.fraction)

-- the fraction stays; BEFORE_ZERO where the time holds fewer ticks: RULES, subtract-ticks and before-zero
unfoldable pub try_sub_ticks_of : ClockTime → ℕ → Answer ClockTime
try_sub_ticks_of t n = answered (of_shift (clock_time_faults t) false (ltb t.ticks n)) (time_at t.clock (t.ticks - n) t.fraction)

-- what is wrong with a time and an amount
abbrev pub shift_faults : ClockTime → Float → Faults
shift_faults t x = both_faults (float_faults x) (clock_time_faults t)

-- the whole ticks of an amount on top of a time's fraction: RULES, add-double
abbrev pub ticks_more : ClockTime → Float → ℕ
ticks_more t x = to_unsigned 64 (whole_of (add binary64 t.fraction x))

-- the amount joins the fraction; the whole part of that goes to the ticks: RULES, add-double
unfoldable pub later_of : ClockTime → Float → Answer ClockTime
later_of t x =
    answered (of_shift (shift_faults t x) (too_many t.ticks (ticks_more t x)) false)
    (time_at t.clock (t.ticks + ticks_more t x) (fract_of (add binary64 t.fraction x)))

-- BEFORE_ZERO: the time is smaller than the amount, both as exact numbers: RULES, before-zero
abbrev pub too_little : ClockTime → Float → Bool
too_little t x = ltb (exact_of t) (scaled x)

-- n ticks and a fraction of d. A negative d borrows a tick, and gives it back where with it d rounds to a whole one:
-- RULES, subtract-double
abbrev pub borrowing : ClockId → ℕ → Float → ClockTime
borrowing c n d =
    let e = add binary64 d one_f in
    cond (lt d zero_f) (cond (eq e one_f) (time_at c n zero_f) (time_at c (n - 1) e)) (time_at c n d)

-- the amount is w whole ticks and r; w leaves the ticks, and r leaves the fraction: RULES, subtract-double
abbrev pub subtracted : ClockTime → Float → ClockTime
subtracted t x =
    let w = to_unsigned 64 (whole_of x) in
    let r = fract_of x in
    let d = sub binary64 t.fraction r in
    borrowing t.clock (t.ticks - w) d

unfoldable pub earlier_of : ClockTime → Float → Answer ClockTime
earlier_of t x = answered (of_shift (shift_faults t x) false (too_little t x)) (subtracted t x)

-- an amount with a minus sign goes the other way by its opposite, -0.0 too: RULES, opposite
unfoldable pub try_add_float_of : ClockTime → Float → Answer ClockTime
try_add_float_of t x = cond (sign_of x) (earlier_of t (neg x)) (later_of t x)

unfoldable pub try_sub_float_of : ClockTime → Float → Answer ClockTime
try_sub_float_of t x = cond (sign_of x) (later_of t (neg x)) (earlier_of t x)

-- fractions as Rust's `partial_cmp` orders doubles, a NaN not at all: RULES, time-order
abbrev pub order_fractions : Float → Float → Option Ordering
order_fractions f g = cond (lt f g) (Some Less) (cond (lt g f) (Some Greater) (cond (eq f g) (Some Equal) None))

-- ticks first, then fractions
abbrev pub order_ticks : nat.Ordering → Float → Float → Option Ordering
order_ticks nat.Ordering.lt f g = Some Less
order_ticks nat.Ordering.eq f g = order_fractions f g
order_ticks nat.Ordering.gt f g = Some Greater

-- times of two clocks, or of two generations of a slot, have no order: RULES, time-order
unfoldable pub order_of : ClockTime → ClockTime → Option Ordering
order_of a b =
    cond (eqb a.clock.slot b.clock.slot && eqb a.clock.generation b.clock.generation)
    (order_ticks (nat.compare a.ticks b.ticks) a.fraction b.fraction)
    None

-- whether the first of two times is the earlier one: RULES, time-order
abbrev pub is_less : Option Ordering → Bool
is_less (Some Less) = true
is_less (Some Equal) = false
is_less (Some Greater) = false
is_less None = false

unfoldable pub try_order_of : ClockTime → ClockTime → Answer (Option Ordering)
try_order_of a b = judged (both_faults (clock_time_faults a) (clock_time_faults b)) (accepted (order_of a b))
