-- What the definitions for whatever can be tweened say of doubles: nothing is asked of a start's unit. Assumes nothing.
use mathlib.Core.Path.{◌≡◌, refl, ap}
use mathlib.Core.Bool.{Bool, true, false, ◌||◌}
use lib.Ieee.{Float}
use Rattle.judge.specs.Answer.{accepted}
use Rattle.judge.specs.Judge.{no_faults, both_faults, float_faults, judged}
use Rattle.judge.specs.declared.Faults.{Faults}
use Rattle.values.specs.Tweenables.{interpolate_of, float_tweens, try_interpolate_of}

or_false : (b : Bool) → (b || false) ≡ b
or_false true = refl
or_false false = refl

-- no faults beside others
pub and_none : (f : Faults) → both_faults f no_faults ≡ f
and_none f = rw (or_false f.dt, or_false f.float, or_false f.speed, or_false f.ease, or_false f.map, or_false f.time)

-- so two doubles and an amount are all that is judged
pub try_interpolate_floats : (a b amount : Float) → try_interpolate_of float_tweens a b amount ≡ judged (both_faults (both_faults (float_faults a) (float_faults b)) (float_faults amount)) (accepted (interpolate_of a b amount))
unfolding try_interpolate_of
try_interpolate_floats a b amount = ap (λ (f : Faults). judged (both_faults f (float_faults amount)) (accepted (interpolate_of a b amount))) (and_none (both_faults (float_faults a) (float_faults b)))
