-- Document 01, "value.rs": values and mappings, of what can be tweened. Assumes nothing.
use Rattle.std.specs.Prelude.{false, Option, None, Some, Float}
use Rattle.std.specs.Float.{binary64}
use Rattle.std.specs.Float.Ieee.{add, sub, mul, div, rem, neg, eq}
use Rattle.doubles.specs.Doubles.{clamp_of}
use Rattle.judge.specs.Answer.{Answer, accepted}
use Rattle.judge.specs.Judge.{no_faults, both_faults, float_faults, judged}
use Rattle.values.specs.Tweenables.{Tweens, float_tweens}
use Rattle.judge.specs.declared.Faults.{Faults}
use Rattle.times.specs.Easings.{apply_of, ease_faults}
use Rattle.times.specs.declared.tween.Easing.{Easing}
use Rattle.values.specs.declared.value.Mapping.{Mapping}
use Rattle.values.specs.declared.value.Value.{Value}
use Rattle.values.specs.declared.value.Value.TheVariants.{Fixed, FromModulator}
use Rattle.values.specs.declared.value.Op.{Op}
use Rattle.values.specs.declared.value.Op.TheVariants as op

-- ---- mappings

-- how far x has come in the input range, clamped and eased: RULES, mapping and reversed-range
unfoldable pub amount_of : Float → Float → Easing → Float → Float
amount_of lo hi e x = apply_of e (clamp_of (div binary64 (sub binary64 x lo) (sub binary64 hi lo)))

-- that far from one output end to the other: RULES, mapping
unfoldable pub map_of : {T : Type 0} → Tweens T → Mapping T → Float → T
map_of k m x = k.between m.out_lo m.out_hi (amount_of m.in_lo m.in_hi m.easing x)

-- ---- what is refused

-- BAD_MAP: the input range has no length: RULES, bad-map
abbrev pub map_faults : Float → Float → Faults
map_faults lo hi = record { dt = false; float = false; speed = false; ease = false; map = eq lo hi; time = false }

abbrev pub range_faults : Float → Float → Easing → Faults
range_faults lo hi e = both_faults (both_faults (map_faults lo hi) (ease_faults e)) (both_faults (float_faults lo) (float_faults hi))

abbrev pub mapping_faults : {T : Type 0} → Tweens T → Mapping T → Faults
mapping_faults k m = both_faults (range_faults m.in_lo m.in_hi m.easing) (k.wrong_ends m.out_lo m.out_hi)

abbrev pub value_faults : {T : Type 0} → Tweens T → Value T → Faults
value_faults k (Fixed x) = k.wrong x
value_faults k (FromModulator i m) = mapping_faults k m

unfoldable pub try_map_of : {T : Type 0} → Tweens T → Mapping T → Float → Answer T
try_map_of k m x = judged (both_faults (mapping_faults k m) (float_faults x)) (accepted (map_of k m x))

-- ---- a value that is fixed, or linked to a modulator and then none where that does not live: RULES, value

abbrev pub raw_of : {T : Type 0} → Tweens T → Value T → Option Float → Option T
raw_of k (Fixed x) i = Some x
raw_of k (FromModulator id m) (Some x) = Some (map_of k m x)
raw_of k (FromModulator id m) None = None

-- ---- arithmetic on a value, or on both output ends of a mapping: RULES, output-arithmetic

abbrev pub made_of : Op → Float → Float
made_of (op.Add y) x = add binary64 x y
made_of (op.Sub y) x = sub binary64 x y
made_of (op.Mul y) x = mul binary64 x y
made_of (op.Div y) x = div binary64 x y
made_of (op.Rem y) x = rem binary64 x y
made_of op.Neg x = neg x

abbrev pub op_faults : Op → Faults
op_faults (op.Add y) = float_faults y
op_faults (op.Sub y) = float_faults y
op_faults (op.Mul y) = float_faults y
op_faults (op.Div y) = float_faults y
op_faults (op.Rem y) = float_faults y
op_faults op.Neg = no_faults

abbrev pub map_output_of : Mapping Float → Op → Mapping Float
map_output_of m o = record { in_lo = m.in_lo; in_hi = m.in_hi; out_lo = made_of o m.out_lo; out_hi = made_of o m.out_hi; easing = m.easing }

abbrev pub value_output_of : Value Float → Op → Value Float
value_output_of (Fixed x) o = Fixed (made_of o x)
value_output_of (FromModulator i m) o = FromModulator i (map_output_of m o)

-- BAD_FLOAT for what went in, and for what comes out: RULES, bad-float
unfoldable pub try_map_output_of : Mapping Float → Op → Answer (Mapping Float)
try_map_output_of m o = judged (both_faults (both_faults (mapping_faults float_tweens m) (op_faults o)) (mapping_faults float_tweens (map_output_of m o))) (accepted (map_output_of m o))

unfoldable pub try_value_output_of : Value Float → Op → Answer (Value Float)
try_value_output_of v o = judged (both_faults (both_faults (value_faults float_tweens v) (op_faults o)) (value_faults float_tweens (value_output_of v o))) (accepted (value_output_of v o))
