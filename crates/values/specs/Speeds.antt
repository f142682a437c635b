-- Document 01, "Speeds": the three units, their ranges, reading, interpolation, and BAD_SPEED. Assumes nothing.
use Rattle.std.specs.Prelude.{ℕ, Bool, false, not, ◌&&◌, ◌||◌, eqb, pos, negsuc, Float}
use Rattle.std.specs.Float.{fin, binary64}
use Rattle.std.specs.Float.Ieee.{mul, div, lt, le, eq}
use Rattle.doubles.specs.Doubles.{finite_of, zero_f, one_f}
use Rattle.values.specs.Tweenables.{Tweens, interpolate_of}
use Rattle.judge.specs.Answer.{Answer, accepted}
use Rattle.judge.specs.Judge.{judged}
use Rattle.judge.specs.declared.Faults.{Faults}
use Rattle.values.specs.declared.clock_speed.ClockSpeed.{ClockSpeed}
use Rattle.values.specs.declared.clock_speed.ClockSpeed.TheVariants.{SecondsPerTick, TicksPerSecond, TicksPerMinute}

abbrev pub sixty_f : Float
sixty_f = fin false 15 (pos 2)

-- each reading is one operation on the speed's number: RULES, speed-reading
abbrev pub spt_of : ClockSpeed → Float
spt_of (SecondsPerTick x) = x
spt_of (TicksPerSecond x) = div binary64 one_f x
spt_of (TicksPerMinute x) = div binary64 sixty_f x

abbrev pub tps_of : ClockSpeed → Float
tps_of (SecondsPerTick x) = div binary64 one_f x
tps_of (TicksPerSecond x) = x
tps_of (TicksPerMinute x) = div binary64 x sixty_f

abbrev pub tpm_of : ClockSpeed → Float
tpm_of (SecondsPerTick x) = div binary64 sixty_f x
tpm_of (TicksPerSecond x) = mul binary64 x sixty_f
tpm_of (TicksPerMinute x) = x

-- a speed in the unit of another
abbrev pub read_in_of : ClockSpeed → ClockSpeed → Float
read_in_of s (SecondsPerTick y) = spt_of s
read_in_of s (TicksPerSecond y) = tps_of s
read_in_of s (TicksPerMinute y) = tpm_of s

-- of the two numbers in the target's unit, as a speed of that unit: RULES, speed-interpolation
unfoldable pub interpolate_speed_of : ClockSpeed → ClockSpeed → Float → ClockSpeed
interpolate_speed_of a (SecondsPerTick y) t = SecondsPerTick (interpolate_of (spt_of a) y t)
interpolate_speed_of a (TicksPerSecond y) t = TicksPerSecond (interpolate_of (tps_of a) y t)
interpolate_speed_of a (TicksPerMinute y) t = TicksPerMinute (interpolate_of (tpm_of a) y t)

-- what every unit accepts: RULES, speed-range
abbrev pub in_range : Float → Bool
in_range x = le (fin false 1 (negsuc 19)) x && le x (fin false 1 (pos 20))

-- BAD_SPEED; a zero of either sign is a speed, but not as seconds per tick: RULES, bad-speed
abbrev pub bad_speed : ClockSpeed → Bool
bad_speed (SecondsPerTick x) = not (in_range x)
bad_speed (TicksPerSecond x) = not (eq x zero_f || in_range x)
bad_speed (TicksPerMinute x) = not (eq x zero_f || in_range x)

-- BAD_SPEED for a start that comes out as a NaN, infinite or beyond 2^27 in the target's unit: RULES, bad-reading
abbrev pub bad_reading : ClockSpeed → ClockSpeed → Bool
bad_reading s target = not (finite_of (read_in_of s target)) || lt (fin false 1 (pos 27)) (read_in_of s target)

-- a fault under number 3
abbrev pub faults_of_speed : Bool → Faults
faults_of_speed b = record { dt = false; float = false; speed = b; ease = false; map = false; time = false }

abbrev pub speed_faults : ClockSpeed → Faults
speed_faults s = faults_of_speed (bad_speed s)

abbrev pub read_faults : ClockSpeed → ClockSpeed → Faults
read_faults s target = faults_of_speed (bad_reading s target)

-- a number for each unit: RULES, speed-units
abbrev pub unit_of : ClockSpeed → ℕ
unit_of (SecondsPerTick x) = 0
unit_of (TicksPerSecond x) = 1
unit_of (TicksPerMinute x) = 2

-- BAD_SPEED: an end outside the range, or two ends that do not share a unit: RULES, bad-speed
abbrev pub end_faults : ClockSpeed → ClockSpeed → Faults
end_faults a b = faults_of_speed (bad_speed a || bad_speed b || not (eqb (unit_of a) (unit_of b)))

abbrev pub speed_tweens : Tweens ClockSpeed
speed_tweens = record { between = interpolate_speed_of; wrong = speed_faults; wrong_ends = end_faults; unreadable = read_faults }

unfoldable pub try_spt_of : ClockSpeed → Answer Float
try_spt_of s = judged (speed_faults s) (accepted (spt_of s))

unfoldable pub try_tps_of : ClockSpeed → Answer Float
try_tps_of s = judged (speed_faults s) (accepted (tps_of s))

unfoldable pub try_tpm_of : ClockSpeed → Answer Float
try_tpm_of s = judged (speed_faults s) (accepted (tpm_of s))
