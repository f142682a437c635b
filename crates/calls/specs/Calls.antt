-- Three families of the calls of docs/BENCH.md: what a line is answered, as the pieces of the answer's text, and none
-- where the line is no call of the family. A line is the list of its bytes. Assumes nothing.
use Rattle.std.specs.Prelude.{ℕ, cond, List, [], ◌∷◌, ◌++◌, Float, Option, Some, None}
use Rattle.doubles.specs.Doubles.{whole_of, fract_of, ceil_of, abs_of, clamp_of}
use Rattle.judge.specs.Answer.{Answer}
use Rattle.times.specs.Durations.{try_seconds_of}
use Rattle.values.specs.Speeds.{speed_tweens, try_spt_of, try_tps_of, try_tpm_of}
use Rattle.values.specs.Tweenables.{Tweens, float_tweens, try_interpolate_of}
use Rattle.values.specs.declared.clock_speed.ClockSpeed.{ClockSpeed}
use Rattle.times.specs.Easings.{try_apply_of, default_tween}
use Rattle.waveform.specs.Waves.{try_wave_value_of}
use Rattle.times.specs.declared.tween.Tween.{Tween}
use Rattle.grammar.specs.Grammar.{Read, with_read, ended_at, float_at, number_at, speed_at, ease_at, wave_at}
use Rattle.names.specs.declared.DoubleCall.{DoubleCall}
use Rattle.names.specs.declared.DoubleCall.TheVariants as double
use Rattle.names.specs.declared.CurveCall.{CurveCall}
use Rattle.names.specs.declared.CurveCall.TheVariants as curve
use Rattle.names.specs.declared.SpeedCall.{SpeedCall}
use Rattle.names.specs.declared.SpeedCall.TheVariants as speed
use Rattle.answers.specs.Answers.{blank, float_pieces, speed_text, ease_text, start_text, reply_text}
use Rattle.digits.specs.Digits.{float_text, number_text}
use Rattle.digits.specs.declared.Out.{Out}
use Rattle.digits.specs.Outs.{put_in}
use Rattle.digits.specs.Puts.{line_of}

-- ---- answers: a line, or `refused N` with the refusal's number: docs/RULES.md, refusal-numbers

-- "`F`"
abbrev pub float_answer_text : Answer Float → List (List ℕ)
float_answer_text = reply_text float_pieces

-- "`F`, on any double": never refused
abbrev pub float_line : Float → List (List ℕ)
float_line x = line_of (float_text x ∷ [])

abbrev pub float_answer : Answer Float → List (List ℕ)
float_answer a = line_of (float_answer_text a)

-- "TWEEN: START NS EASE (NS is the duration)"
abbrev pub tween_text : Tween → List (List ℕ)
tween_text t = start_text t.start_time ++ (blank ∷ number_text t.duration ∷ blank ∷ ease_text t.easing)

-- ---- no call

-- the texts of an answer, or none where the line is no call
abbrev pub Reply : Type 0
Reply = Option (List (List ℕ))

-- a line with more words than its call has "is no call of this grammar": "blanks [..] after the last word are allowed"
abbrev pub when_ended : List ℕ → ℕ → List (List ℕ) → Reply
when_ended s to reply = cond (ended_at s to) (Some reply) None

-- whether the line is a call, and where its answer is put
pub record Answered : Type 0 where
  pub told : Option (Unit {0})
  pub out : Out

-- a line that is no call puts nothing
abbrev pub answered : Out → Reply → Answered
answered out (Some texts) = record { told = Some tt; out = put_in out texts }
answered out None = record { told = None; out = out }

-- ---- the calls f.*

-- the function that each is
abbrev pub double_of : DoubleCall → Float → Float
double_of double.Trunc x = whole_of x
double_of double.Fract x = fract_of x
double_of double.Ceil x = ceil_of x
double_of double.Abs x = abs_of x
double_of double.Clamp x = clamp_of x

-- "`f.trunc F` `f.fract F` `f.ceil F` `f.abs F` `f.clamp F` (to 0..1)": "`F`, on any double"; behind their names
unfoldable pub floats_of : List ℕ → ℕ → DoubleCall → Reply
floats_of s at call = with_read None (float_at s at) (λ x to. when_ended s to (float_line (double_of call x)))

-- ---- a way between two values of a kind: how it is tweened, read and written

module _ {T : Type 0} (k : Tweens T) (read : List ℕ → ℕ → Read T) (text : T → List (List ℕ)) where
  unfoldable pub lerp_of : List ℕ → ℕ → Reply
  lerp_of s at =
      with_read None (read s at) (λ a toA.
      with_read None (read s toA) (λ b toB.
      with_read None (float_at s toB) (λ amount to.
      when_ended s to (line_of (reply_text text (try_interpolate_of k a b amount))))))

-- "`lerp F F F`": "`F`"
abbrev pub lerp_reply : List ℕ → ℕ → Reply
lerp_reply = lerp_of float_tweens float_at float_pieces

-- "`speed.lerp SPEED SPEED F`": "`SPEED`"
abbrev pub speed_lerp_reply : List ℕ → ℕ → Reply
speed_lerp_reply = lerp_of speed_tweens speed_at speed_text

-- ---- the calls ease, wave, dur.secs and tween.default, behind their names

-- "`ease EASE F`": "`F`"
unfoldable pub ease_reply : List ℕ → ℕ → Reply
ease_reply s at =
    with_read None (ease_at s at) (λ e behind.
    with_read None (float_at s behind) (λ x to.
    when_ended s to (float_answer (try_apply_of e x))))

-- "`wave WAVE F`": "`F`"
unfoldable pub wave_reply : List ℕ → ℕ → Reply
wave_reply s at =
    with_read None (wave_at s at) (λ w behind.
    with_read None (float_at s behind) (λ phase to.
    when_ended s to (float_answer (try_wave_value_of w phase))))

-- "`dur.secs NS`": "`F`, the duration in seconds"
unfoldable pub secs_reply : List ℕ → ℕ → Reply
secs_reply s at =
    with_read None (number_at s at) (λ ns to.
    when_ended s to (float_answer (try_seconds_of ns)))

-- "`tween.default`": "`TWEEN`"
unfoldable pub default_reply : List ℕ → ℕ → Reply
default_reply s at = when_ended s at (line_of (tween_text default_tween))

unfoldable pub curves_of : List ℕ → ℕ → CurveCall → Reply
curves_of s at curve.Ease = ease_reply s at
curves_of s at curve.Lerp = lerp_reply s at
curves_of s at curve.Wave = wave_reply s at
curves_of s at curve.DurSecs = secs_reply s at
curves_of s at curve.TweenDefault = default_reply s at

-- ---- the calls speed.*, behind their names

-- a speed in a unit
abbrev pub unit_of : SpeedCall → ClockSpeed → Answer Float
unit_of speed.Spt x = try_spt_of x
unit_of speed.Tps x = try_tps_of x
unit_of speed.Tpm x = try_tpm_of x

-- "`speed.spt SPEED` `speed.tps SPEED` `speed.tpm SPEED`": "`F`"
unfoldable pub speeds_of : List ℕ → ℕ → SpeedCall → Reply
speeds_of s at call = with_read None (speed_at s at) (λ x to. when_ended s to (float_answer (unit_of call x)))
