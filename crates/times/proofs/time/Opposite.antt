-- Adding an amount with a minus sign is subtracting its opposite, which has none, and the reverse: the definitions say
-- so (RULES, opposite), and the measure falls. Assumes nothing.
use mathlib.Core.Path.{◌≡◌, refl}
use Prim.Native.Nat.{ℕ, ◌<◌}
use mathlib.Core.Bool.{true, false, cond, false≢true}
use lib.Dec.{lit≤}
use lib.Ieee.{Float, nan, inf, fin, neg}
use Rattle.doubles.specs.Doubles.{sign_of}
use Rattle.times.specs.declared.time.ClockTime.{ClockTime}
use Rattle.times.specs.Times.{later_of, earlier_of, try_add_float_of, try_sub_float_of}

-- the measure: 1 at a minus sign, and else 0
abbrev pub steps : Float → ℕ
steps x = cond (sign_of x) 1 0

-- the opposite of an amount with a minus sign has none
pub no_sign : (x : Float) → sign_of x ≡ true → sign_of (neg x) ≡ false
unfolding neg
no_sign nan h = refl
no_sign (inf true) h = refl
no_sign (inf false) h = absurd (false≢true h)
no_sign (fin true m e) h = refl
no_sign (fin false m e) h = absurd (false≢true h)

pub steps_fall : (x : Float) → sign_of x ≡ true → steps (neg x) < steps x
steps_fall x h = rw (no_sign x h, h) (lit≤ tt)

module _ (t : ClockTime) (x : Float) where
  pub add_opposite : sign_of x ≡ true → try_sub_float_of t (neg x) ≡ try_add_float_of t x
  unfolding try_add_float_of try_sub_float_of
  add_opposite h = rw (no_sign x h, h)

  pub sub_opposite : sign_of x ≡ true → try_add_float_of t (neg x) ≡ try_sub_float_of t x
  unfolding try_add_float_of try_sub_float_of
  sub_opposite h = rw (no_sign x h, h)

  pub add_plain : sign_of x ≡ false → later_of t x ≡ try_add_float_of t x
  unfolding try_add_float_of
  add_plain h = rw h

  pub sub_plain : sign_of x ≡ false → earlier_of t x ≡ try_sub_float_of t x
  unfolding try_sub_float_of
  sub_plain h = rw h
