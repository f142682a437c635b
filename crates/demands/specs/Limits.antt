-- The limits of the refusals of arguments, and of TICKS_FULL and BEFORE_ZERO for a time that is moved, as one table
-- with one claim: each just inside and just outside, at each argument that takes it, the other arguments being well.
-- The limits of ids are in `IdLimits`. 01, "Refusal numbers" and "Speeds". RULES, refusal-numbers. Assumes nothing.
use Rattle.std.specs.Prelude.{ℕ, Bool, true, false, List, [], ◌∷◌, ◌++◌, T, eqb, Float}
use Rattle.std.specs.Float.{binary64}
use Rattle.std.specs.Float.Ieee.{of_bits, add, sub, mul, div, rem, neg, lt, le, eq, to_unsigned}
use Rattle.doubles.specs.Doubles.{scaled}
use Rattle.judge.specs.Answer.{number_told}
use Rattle.judge.specs.Judge.{number_of, first_fault, dt_faults}
use Rattle.judge.specs.Numbers.{BAD_DT, BAD_FLOAT, BAD_SPEED, BAD_EASE, BAD_MAP, BAD_TIME, TICKS_FULL, BEFORE_ZERO}
use Rattle.values.specs.Speeds.{speed_tweens, try_spt_of, try_tps_of, try_tpm_of}
use Rattle.values.specs.Tweenables.{float_tweens, try_interpolate_of}
use Rattle.times.specs.Durations.{try_seconds_of}
use Rattle.times.specs.Starts.{try_update_of}
use Rattle.times.specs.Times.{time_at, try_from_float_of, try_add_ticks_of, try_sub_ticks_of, later_of, earlier_of, try_add_float_of, try_sub_float_of, try_order_of}
use Rattle.times.specs.declared.time.ClockId.{ClockId}
use Rattle.times.specs.declared.time.ClockTime.{ClockTime}
use Rattle.values.specs.declared.clock_speed.ClockSpeed.{ClockSpeed}
use Rattle.values.specs.declared.clock_speed.ClockSpeed.TheVariants.{SecondsPerTick, TicksPerSecond, TicksPerMinute}
use Rattle.times.specs.declared.start_time.StartTime.{StartTime}
use Rattle.times.specs.declared.start_time.StartTime.TheVariants.{Immediate, Delayed, At}
use Rattle.times.specs.declared.start_time.When.TheVariants.{Later}
use Rattle.times.specs.Easings.{try_apply_of}
use Rattle.values.specs.Values.{value_faults, try_map_of, try_map_output_of, try_value_output_of}
use Rattle.waveform.specs.Waves.{wave_faults, try_wave_value_of}
use Rattle.times.specs.declared.tween.Easing.{Easing}
use Rattle.times.specs.declared.tween.Easing.TheVariants.{Linear, InPowi, OutPowi, InOutPowi}
use Rattle.times.specs.declared.tween.Tween.{Tween}
use Rattle.values.specs.declared.value.Mapping.{Mapping}
use Rattle.values.specs.declared.value.Value.{Value}
use Rattle.values.specs.declared.value.Value.TheVariants.{Fixed, FromModulator}
use Rattle.values.specs.declared.value.Op.TheVariants as op
use Rattle.values.specs.declared.value.ModulatorId.{ModulatorId}
use Rattle.waveform.specs.declared.Waveform.{Waveform}
use Rattle.waveform.specs.declared.Waveform.TheVariants.{Triangle, Saw, Pulse}
use Rattle.parameter.specs.Parameters.{new_of, try_new_of, set_faults}
use Rattle.parameter.specs.declared.Parameter.{Parameter}
use Rattle.info.specs.Infos.{try_when_to_start_of, try_raw_in, try_update_start_in}
use Rattle.modulator.specs.Tweeners.{tweener_faults}
use Rattle.modulator.specs.Lfos.{builder_faults}
use Rattle.modulator.specs.declared.lfo.LfoBuilder.{LfoBuilder}
use Rattle.station.specs.Stations.{fresh_station, info_in}

-- The number that is given, and the number that the rules say. What is given is computed by the very definitions that
-- the entries' statements use, so one that forgot an argument or moved a limit fails the table. Doubles are written by
-- their bits.
pub record Limit : Type 0 where
  pub given : ℕ
  pub said : ℕ

unfoldable pub all : List Limit → Bool
all [] = true
all (r ∷ rs) = elim (eqb r.given r.said) [ true ↦ all rs | false ↦ false ]

abbrev pub limit : ℕ → ℕ → Limit
limit n e = record { given = n; said = e }

abbrev double : ℕ → Float
double b = of_bits binary64 b

-- ---- what is well, for the other arguments

abbrev pub one : Float
one = double 0x3ff0_0000_0000_0000

abbrev half : Float
half = double 0x3fe0_0000_0000_0000

abbrev three : Float
three = double 0x4008_0000_0000_0000

-- a NaN, and an infinity
abbrev pub a_nan : Float
a_nan = double 0x7ff8_0000_0000_0000

abbrev infinite : Float
infinite = double 0x7ff0_0000_0000_0000

abbrev pub per_second : ClockSpeed
per_second = TicksPerSecond one

abbrev first : ClockId
first = record { slot = 0; generation = 1 }

abbrev source : ModulatorId
source = record { slot = 0; generation = 1 }

-- the fifth tick with this fraction, and the last one
abbrev fifth_at : Float → ClockTime
fifth_at g = time_at first 5 g

abbrev last_at : Float → ClockTime
last_at g = time_at first 18_446_744_073_709_551_615 g

-- tick 2^40, from which every accepted amount leads to a time, and the time 2^-53 before it
abbrev middle : ClockTime
middle = time_at first 1_099_511_627_776 (double 0)

abbrev nearly : ClockTime
nearly = time_at first 1_099_511_627_775 (double 0x3fef_ffff_ffff_ffff)

abbrev pub tween_of : StartTime → ℕ → Easing → Tween
tween_of s n e = record { start_time = s; duration = n; easing = e }

abbrev pub tween : Tween
tween = tween_of Immediate 0 Linear

abbrev a_map : {T : Type 0} → Float → Float → T → T → Easing → Mapping T
a_map a b c d e = record { in_lo = a; in_hi = b; out_lo = c; out_hi = d; easing = e }

abbrev mapping : Mapping Float
mapping = a_map one three one three Linear

abbrev pub fixed : Value Float
fixed = Fixed one

abbrev pub lfo : Waveform → Value Float → Value Float → Value Float → Float → LfoBuilder
lfo w f a o p = record { waveform = w; frequency = f; amplitude = a; offset = o; starting_phase = p }

-- a parameter at this speed
abbrev present : ClockSpeed → Parameter ClockSpeed
present s = new_of (Fixed s) s

-- ---- the limits of one argument: f is the number that a call gives to it, the others being well

-- BAD_DT: RULES, bad-dt
abbrev dts : (Float → ℕ) → List Limit
dts f =
    limit (f (double 0)) 0
    ∷ limit (f (double 0x8000_0000_0000_0000)) BAD_DT
    ∷ limit (f (double 0x404e_0000_0000_0000)) 0
    ∷ limit (f (double 0x404e_0000_0000_0001)) BAD_DT
    ∷ limit (f (double 0xbff0_0000_0000_0000)) BAD_DT
    ∷ limit (f a_nan) BAD_DT
    ∷ limit (f infinite) BAD_DT
    ∷ []

-- BAD_FLOAT: RULES, bad-float
abbrev doubles : (Float → ℕ) → List Limit
doubles f =
    limit (f (double 0x4270_0000_0000_0000)) 0
    ∷ limit (f (double 0x4270_0000_0000_0001)) BAD_FLOAT
    ∷ limit (f (double 0xc270_0000_0000_0000)) 0
    ∷ limit (f (double 0xc270_0000_0000_0001)) BAD_FLOAT
    ∷ limit (f a_nan) BAD_FLOAT
    ∷ limit (f infinite) BAD_FLOAT
    ∷ []

-- BAD_SPEED, of one unit: RULES, speed-range; z is the number at 0, of either sign
abbrev paces : ℕ → (Float → ℕ) → List Limit
paces z f =
    limit (f (double 0)) z
    ∷ limit (f (double 0x8000_0000_0000_0000)) z
    ∷ limit (f (double 0x3eb0_0000_0000_0000)) 0
    ∷ limit (f (double 0x3eaf_ffff_ffff_ffff)) BAD_SPEED
    ∷ limit (f (double 0x4130_0000_0000_0000)) 0
    ∷ limit (f (double 0x4130_0000_0000_0001)) BAD_SPEED
    ∷ limit (f (double 0xbff0_0000_0000_0000)) BAD_SPEED
    ∷ limit (f a_nan) BAD_SPEED
    ∷ limit (f infinite) BAD_SPEED
    ∷ []

-- BAD_SPEED, of each unit: RULES, speed-range; 0 is no number of seconds per tick
abbrev speeds_at : (ClockSpeed → ℕ) → List Limit
speeds_at f = paces BAD_SPEED (λ x. f (SecondsPerTick x)) ++ paces 0 (λ x. f (TicksPerSecond x)) ++ paces 0 (λ x. f (TicksPerMinute x))

-- BAD_EASE: RULES, bad-ease
abbrev powers : (ℕ → ℕ) → List Limit
powers f = limit (f 0) BAD_EASE ∷ limit (f 1) 0 ∷ limit (f 16) 0 ∷ limit (f 17) BAD_EASE ∷ []

abbrev easings : (Easing → ℕ) → List Limit
easings f = limit (f Linear) 0 ∷ powers (λ n. f (InPowi n)) ++ powers (λ n. f (OutPowi n)) ++ powers (λ n. f (InOutPowi n))

-- BAD_MAP: RULES, bad-map; a range from high to low is well: RULES, reversed-range
abbrev ranges : (Float → Float → ℕ) → List Limit
ranges f =
    limit (f one one) BAD_MAP
    ∷ limit (f (double 0) (double 0x8000_0000_0000_0000)) BAD_MAP
    ∷ limit (f (double 0x8000_0000_0000_0000) (double 0)) BAD_MAP
    ∷ limit (f one (double 0x3ff0_0000_0000_0001)) 0
    ∷ limit (f three one) 0
    ∷ []

-- BAD_TIME, of a fraction: RULES, bad-time
abbrev fractions : (Float → ℕ) → List Limit
fractions f =
    limit (f (double 0)) 0
    ∷ limit (f (double 0x8000_0000_0000_0000)) BAD_TIME
    ∷ limit (f (double 0x3fef_ffff_ffff_ffff)) 0
    ∷ limit (f one) BAD_TIME
    ∷ limit (f (double 0xbfe0_0000_0000_0000)) BAD_TIME
    ∷ limit (f a_nan) BAD_TIME
    ∷ limit (f infinite) BAD_TIME
    ∷ []

-- BAD_TIME, of a duration or a delay: RULES, bad-time
abbrev spans : (ℕ → ℕ) → List Limit
spans f = limit (f 86_400_000_000_000) 0 ∷ limit (f 86_400_000_000_001) BAD_TIME ∷ []

abbrev starts : (StartTime → ℕ) → List Limit
starts f = limit (f Immediate) 0 ∷ spans (λ n. f (Delayed n)) ++ fractions (λ g. f (At (fifth_at g)))

abbrev tweens : (Tween → ℕ) → List Limit
tweens f = starts (λ s. f (tween_of s 0 Linear)) ++ spans (λ n. f (tween_of Immediate n Linear)) ++ easings (λ e. f (tween_of Immediate 0 e))

abbrev float_maps : (Mapping Float → ℕ) → List Limit
float_maps f =
    doubles (λ x. f (a_map x three one three Linear))
    ++ doubles (λ x. f (a_map one x one three Linear))
    ++ doubles (λ x. f (a_map one three x three Linear))
    ++ doubles (λ x. f (a_map one three one x Linear))
    ++ ranges (λ x y. f (a_map x y one three Linear))
    ++ easings (λ e. f (a_map one three one three e))

-- BAD_SPEED, of two ends in two units: RULES, speed-mapping
abbrev speed_maps : (Mapping ClockSpeed → ℕ) → List Limit
speed_maps f =
    doubles (λ x. f (a_map x three per_second per_second Linear))
    ++ doubles (λ x. f (a_map one x per_second per_second Linear))
    ++ paces 0 (λ x. f (a_map one three (TicksPerSecond x) per_second Linear))
    ++ paces 0 (λ x. f (a_map one three per_second (TicksPerSecond x) Linear))
    ++ paces BAD_SPEED (λ x. f (a_map one three (SecondsPerTick x) (SecondsPerTick one) Linear))
    ++ paces BAD_SPEED (λ x. f (a_map one three (SecondsPerTick one) (SecondsPerTick x) Linear))
    ++ ranges (λ x y. f (a_map x y per_second per_second Linear))
    ++ easings (λ e. f (a_map one three per_second per_second e))
    ++ limit (f (a_map one three per_second (TicksPerMinute one) Linear)) BAD_SPEED
    ∷ limit (f (a_map one three (SecondsPerTick one) per_second Linear)) BAD_SPEED
    ∷ limit (f (a_map one three (TicksPerMinute one) (SecondsPerTick one) Linear)) BAD_SPEED
    ∷ []

abbrev float_values : (Value Float → ℕ) → List Limit
float_values f = doubles (λ x. f (Fixed x)) ++ float_maps (λ m. f (FromModulator source m))

abbrev speed_values : (Value ClockSpeed → ℕ) → List Limit
speed_values f = speeds_at (λ s. f (Fixed s)) ++ speed_maps (λ m. f (FromModulator source m))

-- ---- the table

-- a frame, or an update of a parameter; a clock that is added; and what only looks at the station
abbrev alone : List Limit
alone =
    dts (λ x. first_fault (dt_faults x))
    ++ speed_values (λ v. first_fault (value_faults speed_tweens v))
    ++ fractions (λ g. number_told (try_when_to_start_of (info_in fresh_station) (fifth_at g)))
    ++ float_values (λ v. number_told (try_raw_in float_tweens (info_in fresh_station) v))
    ++ speed_values (λ v. number_told (try_raw_in speed_tweens (info_in fresh_station) v))
    ++ dts (λ x. number_told (try_update_start_in (info_in fresh_station) Immediate x))
    ++ starts (λ s. number_told (try_update_start_in (info_in fresh_station) s one))

-- BAD_SPEED, of a speed that cannot be read in the target's unit: RULES, bad-reading
abbrev readings : (ClockSpeed → ClockSpeed → ℕ) → List Limit
readings f =
    limit (f (TicksPerSecond (double 0)) (SecondsPerTick one)) BAD_SPEED
    ∷ limit (f (TicksPerMinute (double 0)) (SecondsPerTick one)) BAD_SPEED
    ∷ limit (f (TicksPerSecond (double 0)) per_second) 0
    ∷ []

-- a clock's speed, or a speed parameter, that is set
abbrev speed_sets : List Limit
speed_sets =
    speed_values (λ v. first_fault (set_faults speed_tweens (present per_second) v tween))
    ++ tweens (λ w. first_fault (set_faults speed_tweens (present per_second) (Fixed per_second) w))
    ++ readings (λ s t. first_fault (set_faults speed_tweens (present s) (Fixed t) tween))
    ++ readings (λ s t. first_fault (set_faults speed_tweens (present s) (FromModulator source (a_map one three t t Linear)) tween))
    ++ limit (first_fault (set_faults speed_tweens (present (TicksPerSecond (double 0x41a0_0000_0000_0000))) (Fixed per_second) tween)) 0
    ∷ limit (first_fault (set_faults speed_tweens (present (TicksPerSecond (double 0x41a0_0000_0000_0001))) (Fixed per_second) tween)) BAD_SPEED
    ∷ []

-- a float parameter, or an LFO's, that is set
abbrev float_sets : List Limit
float_sets =
    float_values (λ v. first_fault (set_faults float_tweens (new_of fixed one) v tween))
    ++ tweens (λ w. first_fault (set_faults float_tweens (new_of fixed one) fixed w))

-- a tweener that is set; an LFO's builder, its waveform and each of its four numbers
abbrev modulators : List Limit
modulators =
    doubles (λ x. first_fault (tweener_faults x tween))
    ++ tweens (λ w. first_fault (tweener_faults one w))
    ++ limit (first_fault (builder_faults (lfo Triangle fixed fixed fixed one))) 0
    ∷ limit (first_fault (builder_faults (lfo Saw fixed fixed fixed one))) 0
    ∷ doubles (λ x. first_fault (builder_faults (lfo (Pulse x) fixed fixed fixed one)))
    ++ float_values (λ v. first_fault (builder_faults (lfo Triangle v fixed fixed one)))
    ++ float_values (λ v. first_fault (builder_faults (lfo Triangle fixed v fixed one)))
    ++ float_values (λ v. first_fault (builder_faults (lfo Triangle fixed fixed v one)))
    ++ doubles (λ x. first_fault (builder_faults (lfo Triangle fixed fixed fixed x)))
    ++ doubles (λ x. first_fault (wave_faults (Pulse x)))

-- a parameter that is made
abbrev made : List Limit
made =
    float_values (λ v. number_told (try_new_of float_tweens v one))
    ++ doubles (λ x. number_told (try_new_of float_tweens fixed x))
    ++ speed_values (λ v. number_told (try_new_of speed_tweens v per_second))
    ++ speeds_at (λ s. number_told (try_new_of speed_tweens (Fixed per_second) s))

-- speeds that are read or interpolated, and doubles that are interpolated
abbrev speed_calls : List Limit
speed_calls =
    speeds_at (λ s. number_told (try_spt_of s))
    ++ speeds_at (λ s. number_told (try_tps_of s))
    ++ speeds_at (λ s. number_told (try_tpm_of s))
    ++ speeds_at (λ s. number_told (try_interpolate_of speed_tweens s per_second one))
    ++ speeds_at (λ s. number_told (try_interpolate_of speed_tweens per_second s one))
    ++ doubles (λ x. number_told (try_interpolate_of speed_tweens per_second per_second x))
    ++ readings (λ s t. number_told (try_interpolate_of speed_tweens s t one))
    ++ doubles (λ x. number_told (try_interpolate_of float_tweens x one one))
    ++ doubles (λ x. number_told (try_interpolate_of float_tweens one x one))
    ++ doubles (λ x. number_told (try_interpolate_of float_tweens one one x))

-- BAD_TIME, of a double with its sign bit set that is to be a time, TICKS_FULL and BEFORE_ZERO:
-- RULES, time-from-double, ticks-full and before-zero
abbrev time_calls : List Limit
time_calls =
    limit (number_told (try_from_float_of first (double 0))) 0
    ∷ limit (number_told (try_from_float_of first (double 0x8000_0000_0000_0000))) BAD_TIME
    ∷ limit (number_told (try_from_float_of first (double 0xbff0_0000_0000_0000))) BAD_TIME
    ∷ limit (number_told (try_from_float_of first (double 0x4270_0000_0000_0000))) 0
    ∷ limit (number_told (try_from_float_of first (double 0x4270_0000_0000_0001))) BAD_FLOAT
    ∷ limit (number_told (try_from_float_of first a_nan)) BAD_FLOAT
    ∷ limit (number_told (try_add_ticks_of (fifth_at (double 0)) 18_446_744_073_709_551_610)) 0
    ∷ limit (number_told (try_add_ticks_of (fifth_at (double 0)) 18_446_744_073_709_551_611)) TICKS_FULL
    ∷ limit (number_told (try_sub_ticks_of (fifth_at (double 0)) 5)) 0
    ∷ limit (number_told (try_sub_ticks_of (fifth_at (double 0)) 6)) BEFORE_ZERO
    ∷ limit (number_told (try_add_float_of (last_at (double 0x3fd0_0000_0000_0000)) (double 0x3fe0_0000_0000_0000))) 0
    ∷ limit (number_told (try_add_float_of (last_at (double 0x3fe0_0000_0000_0000)) (double 0x3fe0_0000_0000_0000))) TICKS_FULL
    ∷ limit (number_told (try_add_float_of (last_at (double 0x3fe0_0000_0000_0000)) (double 0xbfe0_0000_0000_0000))) 0
    ∷ limit (number_told (try_sub_float_of (last_at (double 0x3fd0_0000_0000_0000)) (double 0xbfe0_0000_0000_0000))) 0
    ∷ limit (number_told (try_sub_float_of (last_at (double 0x3fe0_0000_0000_0000)) (double 0xbfe0_0000_0000_0000))) TICKS_FULL
    ∷ limit (number_told (try_sub_float_of (last_at (double 0x3fe0_0000_0000_0000)) (double 0x3fe0_0000_0000_0000))) 0
    -- 5 and a half off (5, 0.5), and the next double; the same added as a negative amount
    ∷ limit (number_told (try_sub_float_of (fifth_at half) (double 0x4016_0000_0000_0000))) 0
    ∷ limit (number_told (try_sub_float_of (fifth_at half) (double 0x4016_0000_0000_0001))) BEFORE_ZERO
    ∷ limit (number_told (try_add_float_of (fifth_at half) (double 0xc016_0000_0000_0000))) 0
    ∷ limit (number_told (try_add_float_of (fifth_at half) (double 0xc016_0000_0000_0001))) BEFORE_ZERO
    -- 2^40 off a time that is 2^-53 less: their sum, rounded, would be 2^40
    ∷ limit (number_told (try_sub_float_of nearly (double 0x4270_0000_0000_0000))) BEFORE_ZERO
    ∷ limit (number_told (try_add_float_of nearly (double 0xc270_0000_0000_0000))) BEFORE_ZERO
    -- 6 off (5, 0.5), and 5 off; the least double off (0, 0.0), and off itself
    ∷ limit (number_told (try_sub_float_of (fifth_at half) (double 0x4018_0000_0000_0000))) BEFORE_ZERO
    ∷ limit (number_told (try_sub_float_of (fifth_at half) (double 0x4014_0000_0000_0000))) 0
    ∷ limit (number_told (try_sub_float_of (time_at first 0 (double 0)) (double 1))) BEFORE_ZERO
    ∷ limit (number_told (try_sub_float_of (time_at first 0 (double 1)) (double 1))) 0
    ∷ limit (number_told (try_add_float_of (time_at first 0 (double 0)) (double 0x8000_0000_0000_0000))) 0
    -- 2, 6 and 12 at once: a float first, then a fraction
    ∷ limit (number_told (try_sub_float_of (fifth_at (double 0x3ff0_0000_0000_0000)) (double 0x4270_0000_0000_0001))) BAD_FLOAT
    ∷ limit (number_told (try_sub_float_of (fifth_at (double 0x3ff0_0000_0000_0000)) (double 0x4270_0000_0000_0000))) BAD_TIME
    ∷ fractions (λ g. number_told (try_add_ticks_of (fifth_at g) 1))
    ++ fractions (λ g. number_told (try_sub_ticks_of (fifth_at g) 1))
    ++ fractions (λ g. number_told (try_add_float_of (fifth_at g) one))
    ++ doubles (λ x. number_told (try_add_float_of middle x))
    ++ fractions (λ g. number_told (try_sub_float_of (fifth_at g) one))
    ++ doubles (λ x. number_told (try_sub_float_of middle x))
    ++ fractions (λ g. number_told (try_order_of (fifth_at g) (fifth_at (double 0))))
    ++ fractions (λ g. number_told (try_order_of (fifth_at (double 0)) (fifth_at g)))
    ++ spans (λ n. number_told (try_seconds_of n))
    ++ dts (λ x. number_told (try_update_of Immediate x Later))
    ++ starts (λ s. number_told (try_update_of s one Later))

-- easings, waves and mappings; and output ends that an operation makes too large, or no number: RULES,
-- output-arithmetic
abbrev value_calls : List Limit
value_calls =
    easings (λ e. number_told (try_apply_of e one))
    ++ doubles (λ x. number_told (try_apply_of Linear x))
    ++ doubles (λ x. number_told (try_wave_value_of (Pulse x) one))
    ++ doubles (λ x. number_told (try_wave_value_of Triangle x))
    ++ float_maps (λ m. number_told (try_map_of float_tweens m one))
    ++ doubles (λ x. number_told (try_map_of float_tweens mapping x))
    ++ speed_maps (λ m. number_told (try_map_of speed_tweens m one))
    ++ doubles (λ x. number_told (try_map_of speed_tweens (a_map one three per_second per_second Linear) x))
    ++ float_maps (λ m. number_told (try_map_output_of m op.Neg))
    ++ float_values (λ v. number_told (try_value_output_of v op.Neg))
    ++ doubles (λ x. number_told (try_value_output_of (Fixed (double 0)) (op.Add x)))
    ++ doubles (λ x. number_told (try_value_output_of (Fixed (double 0)) (op.Sub x)))
    ++ doubles (λ x. number_told (try_value_output_of (Fixed (double 0)) (op.Mul x)))
    ++ doubles (λ x. number_told (try_value_output_of fixed (op.Div x)))
    ++ doubles (λ x. number_told (try_value_output_of fixed (op.Rem x)))
    ++ limit (number_told (try_value_output_of (Fixed (double 0x4270_0000_0000_0000)) (op.Mul one))) 0
    ∷ limit (number_told (try_value_output_of (Fixed (double 0x4270_0000_0000_0000)) (op.Add one))) BAD_FLOAT
    ∷ limit (number_told (try_value_output_of fixed (op.Div (double 0)))) BAD_FLOAT
    ∷ limit (number_told (try_value_output_of fixed (op.Rem (double 0)))) BAD_FLOAT
    ∷ limit (number_told (try_map_output_of (a_map one three (double 0x4270_0000_0000_0000) one Linear) (op.Add one))) BAD_FLOAT
    ∷ limit (number_told (try_map_output_of (a_map one three one (double 0x4270_0000_0000_0000) Linear) (op.Add one))) BAD_FLOAT
    ∷ limit (number_told (try_map_output_of (a_map one three one (double 0x4270_0000_0000_0000) Linear) (op.Sub one))) 0
    ∷ []

pub table : List Limit
table = alone ++ speed_sets ++ float_sets ++ modulators ++ made ++ speed_calls ++ time_calls ++ value_calls

-- The one claim. It shows that no argument is forgotten and no limit is moved in the definitions of arguments' faults,
-- which `exactly` takes as they are. Between the rows it says nothing: there the definitions are read against RULES.
pub limits : T (all table)
unfolding all table number_of first_fault scaled of_bits add sub mul div rem neg lt le eq to_unsigned try_interpolate_of try_spt_of try_tps_of try_tpm_of try_seconds_of try_update_of try_from_float_of try_add_ticks_of try_sub_ticks_of later_of earlier_of try_add_float_of try_sub_float_of try_order_of try_apply_of try_map_of try_map_output_of try_value_output_of try_wave_value_of try_when_to_start_of try_raw_in try_new_of
limits = tt
