-- Document 01, "tween/tweenable.rs": what can be tweened, and interpolation. Assumes nothing.
use Rattle.std.specs.Prelude.{Float}
use Rattle.std.specs.Float.{binary64}
use Rattle.std.specs.Float.Ieee.{add, sub, mul}
use Rattle.judge.specs.Answer.{Answer, accepted}
use Rattle.judge.specs.Judge.{no_faults, both_faults, float_faults, judged}
use Rattle.judge.specs.declared.Faults.{Faults}

-- What the type of a tweened value says of it: the value between two by an amount, and what is wrong with a value, with
-- the two outputs of a mapping, and with a start that is read in the unit of a target
pub record Tweens (T : Type 0) : Type 0 where
  pub between : T → T → Float → T
  pub wrong : T → Faults
  pub wrong_ends : T → T → Faults
  pub unreadable : T → T → Faults

unfoldable pub try_interpolate_of : {T : Type 0} → Tweens T → T → T → Float → Answer T
try_interpolate_of k a b amount =
    judged (both_faults (both_faults (both_faults (k.wrong a) (k.wrong b)) (k.unreadable a b)) (float_faults amount))
    (accepted (k.between a b amount))

-- ---- of doubles

-- from a towards b by an amount; at 1 rounding can miss b: RULES, interpolation
abbrev pub interpolate_of : Float → Float → Float → Float
interpolate_of a b amount = add binary64 a (mul binary64 (sub binary64 b a) amount)

abbrev pub float_end_faults : Float → Float → Faults
float_end_faults a b = both_faults (float_faults a) (float_faults b)

-- a double has no unit, so any can be read
abbrev pub float_tweens : Tweens Float
float_tweens = record { between = interpolate_of; wrong = float_faults; wrong_ends = float_end_faults; unreadable = λ a b. no_faults }
