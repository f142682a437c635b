-- What holds of the parameters that calls can reach: no NaN in a value or a speed, a tween's time within its duration,
-- its start readable in its target's unit, nothing under way where a parameter is stagnant. 01, "parameter.rs" and
-- "Speeds"; RULES, no-nan. Assumes nothing.
use Rattle.std.specs.Prelude.{◌≡◌, ℕ, true, false, pos, T, Float, Option, Some, None}
use Rattle.std.specs.Float.{fin, binary64}
use Rattle.std.specs.Float.Ieee.{fits}
use Rattle.std.specs.Float.Ieee.Scale.{finite}
use Rattle.doubles.specs.Doubles.{zero_f}
use Rattle.doubles.specs.Intervals.{Between}
use Rattle.times.specs.Durations.{seconds_of}
use Rattle.times.specs.Easings.{tween_faults}
use Rattle.judge.specs.Judge.{no_faults}
use Rattle.values.specs.RunningSpeeds.{Running, number_of}
use Rattle.values.specs.Speeds.{speed_tweens}
use Rattle.values.specs.Tweenables.{Tweens, float_tweens}
use Rattle.values.specs.Values.{value_faults}
use Rattle.values.specs.declared.clock_speed.ClockSpeed.{ClockSpeed}
use Rattle.values.specs.declared.value.Mapping.{Mapping}
use Rattle.values.specs.declared.value.Value.{Value}
use Rattle.values.specs.declared.value.Value.TheVariants.{Fixed, FromModulator}
use Rattle.parameter.specs.Parameters.{target_unit}
use Rattle.parameter.specs.declared.course.Course.{Course}
use Rattle.parameter.specs.declared.Tweening.{Tweening}
use Rattle.parameter.specs.declared.State.{State}
use Rattle.parameter.specs.declared.State.TheVariants as states
use Rattle.parameter.specs.declared.Parameter.{Parameter}

-- ---- numbers

-- a value that the format holds: RULES, double-arithmetic
abbrev pub Double : Float → Type 0
Double x = T (fits binary64 x)

-- x in -2^k..2^k, so not a NaN
abbrev pub Within : ℕ → Float → Type 0
Within k x = Between (fin true 1 (pos k)) x (fin false 1 (pos k))

-- the numbers that are not refused: RULES, bad-float
abbrev pub Sized : Float → Type 0
Sized x = Double x × Within 40 x

-- what a modulator shows: a number, or that it does not live
abbrev pub SoundInput : Option Float → Type 0
SoundInput (Some x) = Double x × T (finite x)
SoundInput None = Unit {0}

-- ---- the kinds of values

-- what is asked of the values of one kind
pub record Asked (A : Type 0) : Type 1 where
  pub tweens : Tweens A
  -- their numbers are doubles
  pub Doubles : A → Type 0
  -- what a parameter may show
  pub Shown : A → Type 0

abbrev pub floats : Asked Float
floats = record { tweens = float_tweens; Doubles = Double; Shown = Sized }

abbrev pub speeds : Asked ClockSpeed
speeds = record { tweens = speed_tweens; Doubles = λ s. Double (number_of s); Shown = Running }

-- ---- values: doubles, and nothing of them is refused

pub record MappingDoubles {A : Type 0} (q : Asked A) (m : Mapping A) : Type 0 where
  pub in_lo : Double m.in_lo
  pub in_hi : Double m.in_hi
  pub out_lo : q.Doubles m.out_lo
  pub out_hi : q.Doubles m.out_hi

abbrev pub ValueDoubles : {A : Type 0} → Asked A → Value A → Type 0
ValueDoubles q (Fixed x) = q.Doubles x
ValueDoubles q (FromModulator i m) = MappingDoubles q m

abbrev pub FloatDoubles : Value Float → Type 0
FloatDoubles v = ValueDoubles floats v

abbrev pub SpeedDoubles : Value ClockSpeed → Type 0
SpeedDoubles v = ValueDoubles speeds v

pub record SoundValue {A : Type 0} (q : Asked A) (v : Value A) : Type 0 where
  pub doubles : ValueDoubles q v
  pub accepted : value_faults q.tweens v ≡ no_faults

-- ---- tweens under way

-- an accepted tween, with what is left of its delay; a tween ends where its time reaches its duration (RULES, end), so
-- the time does not pass it
pub record SoundCourse (c : Course) : Type 0 where
  pub accepted : tween_faults c.tween ≡ no_faults
  pub double : Double c.time
  pub running : Between zero_f c.time (seconds_of c.tween.duration)

-- a speed at the start has a reading in the target's unit, finite and at most 2^27, so no mix of the two is a NaN:
-- RULES, bad-reading
pub record SoundTweening {A : Type 0} (q : Asked A) (t : Tweening A) : Type 0 where
  pub start : q.Shown t.start
  pub target : SoundValue q t.target
  pub course : SoundCourse t.course
  pub readable : q.tweens.unreadable t.start (target_unit t.target) ≡ no_faults

-- ---- parameters

abbrev pub SoundState : {A : Type 0} → Asked A → State A → Type 0
SoundState q (states.Idle v) = SoundValue q v
SoundState q (states.Tweening t) = SoundTweening q t

-- an update leaves a stagnant parameter as it is: it has no tween and no modulator to follow, and shows the fixed value
-- that it rests at: RULES, at-rest
pub record SoundParameter {A : Type 0} (q : Asked A) (p : Parameter A) : Type 0 where
  pub raw : q.Shown p.raw
  pub state : SoundState q p.state
  pub resting : p.stagnant ≡ true → p.state ≡ states.Idle (Fixed p.raw)

abbrev pub SoundFloat : Parameter Float → Type 0
SoundFloat p = SoundParameter floats p

abbrev pub SoundSpeed : Parameter ClockSpeed → Type 0
SoundSpeed p = SoundParameter speeds p
