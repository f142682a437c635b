-- Document 01, "tween.rs": easings and tweens, and what is refused of them. Assumes nothing.
use Rattle.std.specs.Prelude.{ℕ, zero, suc, Bool, false, ◌||◌, cond, ltb, Float}
use Rattle.std.specs.Float.{binary64}
use Rattle.std.specs.Float.Ieee.{add, sub, mul, div, lt}
use Rattle.doubles.specs.Doubles.{one_f, two_f, half_f}
use Rattle.judge.specs.Answer.{Answer, accepted}
use Rattle.judge.specs.Judge.{both_faults, float_faults, span_faults, judged}
use Rattle.times.specs.Durations.{seconds_of}
use Rattle.times.specs.Starts.{start_faults}
use Rattle.judge.specs.declared.Faults.{Faults}
use Rattle.times.specs.declared.start_time.StartTime.TheVariants.{Immediate}
use Rattle.times.specs.declared.tween.Easing.{Easing}
use Rattle.times.specs.declared.tween.Easing.TheVariants.{Linear, InPowi, OutPowi, InOutPowi}
use Rattle.times.specs.declared.tween.Tween.{Tween}

-- n factors x, multiplied from the left; no factor gives 1: RULES, power
unfoldable pub power_of : Float → ℕ → Float
power_of x zero = one_f
power_of x (suc zero) = x
power_of x (suc (suc n)) = mul binary64 (power_of x (suc n)) x

-- the power of what is missing to 1, taken from 1: RULES, out-powers
abbrev pub out_of : Float → ℕ → Float
out_of x n = sub binary64 one_f (power_of (sub binary64 one_f x) n)

-- of the doubled amount y, half the power up to the middle, and its mirror image behind it: RULES, in-out-powers
abbrev pub in_out_at : Float → ℕ → Float
in_out_at y n =
    cond (lt y one_f) (mul binary64 half_f (power_of y n))
    (add binary64 (mul binary64 half_f (sub binary64 one_f (power_of (sub binary64 two_f y) n))) half_f)

unfoldable pub in_out_of : Float → ℕ → Float
in_out_of x n = in_out_at (mul binary64 two_f x) n

-- the amount itself, or a curve of it: RULES, easing
unfoldable pub apply_of : Easing → Float → Float
apply_of Linear x = x
apply_of (InPowi n) x = power_of x n
apply_of (OutPowi n) x = out_of x n
apply_of (InOutPowi n) x = in_out_of x n

-- BAD_EASE: a power below 1 or above 16: RULES, bad-ease
abbrev pub bad_power : ℕ → Bool
bad_power n = ltb n 1 || ltb 16 n

abbrev pub bad_ease : Easing → Bool
bad_ease Linear = false
bad_ease (InPowi n) = bad_power n
bad_ease (OutPowi n) = bad_power n
bad_ease (InOutPowi n) = bad_power n

abbrev pub ease_faults : Easing → Faults
ease_faults e = record { dt = false; float = false; speed = false; ease = bad_ease e; map = false; time = false }

-- a tween's start, its duration and its easing: RULES, tween
abbrev pub tween_faults : Tween → Faults
tween_faults t = both_faults (both_faults (start_faults t.start_time) (span_faults t.duration)) (ease_faults t.easing)

unfoldable pub try_apply_of : Easing → Float → Answer Float
try_apply_of e x = judged (both_faults (ease_faults e) (float_faults x)) (accepted (apply_of e x))

-- time / duration in seconds, eased: RULES, tween-amount
unfoldable pub tween_value_of : Tween → Float → Float
tween_value_of t time = apply_of t.easing (div binary64 time (seconds_of t.duration))

-- at once, ten milliseconds, with no curve: RULES, default-tween
abbrev pub default_tween : Tween
default_tween = record { start_time = Immediate; duration = 10_000_000; easing = Linear }
