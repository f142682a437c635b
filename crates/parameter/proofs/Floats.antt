-- What the definitions for whatever can be tweened say of doubles: a double can be tweened to any other. Assumes
-- nothing.
use mathlib.Core.Path.{◌≡◌}
use lib.Ieee.{Float}
use Rattle.values.specs.Tweenables.{float_tweens}
use Rattle.values.specs.declared.value.Value.{Value}
use Rattle.values.proofs.tweenable.Floats.{and_none}
use Rattle.times.specs.declared.tween.Tween.{Tween}
use Rattle.parameter.specs.Parameters.{target_faults, set_faults}
use Rattle.parameter.specs.declared.Parameter.{Parameter}

pub set_faults_floats : (p : Parameter Float) (v : Value Float) (t : Tween) → set_faults float_tweens p v t ≡ target_faults float_tweens v t
set_faults_floats p v t = cc (and_none (target_faults float_tweens v t))
