-- What the definitions for whatever can be tweened say of doubles and of speeds, written out. `tweenable/Floats` has
-- the one that is no mere reading. Assumes nothing.
use mathlib.Core.Path.{◌≡◌, refl}
use Rattle.std.specs.Prelude.{Option, Some, None, false}
use lib.Ieee.{Float}
use Rattle.judge.specs.Answer.{Answer, accepted}
use Rattle.judge.specs.Judge.{both_faults, float_faults, judged}
use Rattle.judge.specs.declared.Faults.{Faults}
use Rattle.values.specs.Tweenables.{interpolate_of, float_tweens, try_interpolate_of}
use Rattle.values.specs.Speeds.{interpolate_speed_of, speed_faults, read_faults, end_faults, speed_tweens}
use Rattle.values.specs.Values.{amount_of, map_of, range_faults, mapping_faults, value_faults, try_map_of, raw_of}
use Rattle.values.specs.declared.clock_speed.ClockSpeed.{ClockSpeed}
use Rattle.values.specs.declared.value.Mapping.{Mapping}
use Rattle.values.specs.declared.value.ModulatorId.{ModulatorId}
use Rattle.values.specs.declared.value.Value.TheVariants.{Fixed, FromModulator}

pub try_interpolate_speeds : (a b : ClockSpeed) (amount : Float) → try_interpolate_of speed_tweens a b amount ≡ judged (both_faults (both_faults (both_faults (speed_faults a) (speed_faults b)) (read_faults a b)) (float_faults amount)) (accepted (interpolate_speed_of a b amount))
unfolding try_interpolate_of
try_interpolate_speeds a b amount = refl

module _ (m : Mapping Float) where
  pub map_floats : (x : Float) → map_of float_tweens m x ≡ interpolate_of m.out_lo m.out_hi (amount_of m.in_lo m.in_hi m.easing x)
  unfolding map_of
  map_floats x = refl

  pub float_map_faults : mapping_faults float_tweens m ≡ both_faults (range_faults m.in_lo m.in_hi m.easing) (both_faults (float_faults m.out_lo) (float_faults m.out_hi))
  float_map_faults = refl

  pub try_map_floats : (x : Float) → try_map_of float_tweens m x ≡ judged (both_faults (mapping_faults float_tweens m) (float_faults x)) (accepted (map_of float_tweens m x))
  unfolding try_map_of
  try_map_floats x = refl

  module _ (id : ModulatorId) where
    pub linked_float_faults : value_faults float_tweens (FromModulator id m) ≡ mapping_faults float_tweens m
    linked_float_faults = refl

    pub linked_float : (x : Float) → raw_of float_tweens (FromModulator id m) (Some x) ≡ Some (map_of float_tweens m x)
    linked_float x = refl

    pub linked_float_gone : raw_of float_tweens (FromModulator id m) None ≡ None
    linked_float_gone = refl

module _ (m : Mapping ClockSpeed) where
  pub map_speeds : (x : Float) → map_of speed_tweens m x ≡ interpolate_speed_of m.out_lo m.out_hi (amount_of m.in_lo m.in_hi m.easing x)
  unfolding map_of
  map_speeds x = refl

  pub speed_map_faults : mapping_faults speed_tweens m ≡ both_faults (range_faults m.in_lo m.in_hi m.easing) (end_faults m.out_lo m.out_hi)
  speed_map_faults = refl

  pub try_map_speeds : (x : Float) → try_map_of speed_tweens m x ≡ judged (both_faults (mapping_faults speed_tweens m) (float_faults x)) (accepted (map_of speed_tweens m x))
  unfolding try_map_of
  try_map_speeds x = refl

  module _ (id : ModulatorId) where
    pub linked_speed_faults : value_faults speed_tweens (FromModulator id m) ≡ mapping_faults speed_tweens m
    linked_speed_faults = refl

    pub linked_speed : (x : Float) → raw_of speed_tweens (FromModulator id m) (Some x) ≡ Some (map_of speed_tweens m x)
    linked_speed x = refl

    pub linked_speed_gone : raw_of speed_tweens (FromModulator id m) None ≡ None
    linked_speed_gone = refl

-- and of a value that is fixed
pub float_value_faults : (x : Float) → value_faults float_tweens (Fixed x) ≡ float_faults x
float_value_faults x = refl

pub speed_value_faults : (s : ClockSpeed) → value_faults speed_tweens (Fixed s) ≡ speed_faults s
speed_value_faults s = refl

pub fixed_float : (x : Float) (i : Option Float) → raw_of float_tweens (Fixed x) i ≡ Some x
fixed_float x i = refl

pub fixed_speed : (s : ClockSpeed) (i : Option Float) → raw_of speed_tweens (Fixed s) i ≡ Some s
fixed_speed s i = refl

-- a double has no speed's fault, by itself, at a mapping's end or as what is read in a target's unit: 3 is never given
pub doubles_without_speed :
    (x y : Float) → ((float_tweens.wrong x).speed ≡ false) × ((float_tweens.wrong_ends x y).speed ≡ false) × ((float_tweens.unreadable x y).speed ≡ false)
doubles_without_speed x y = (refl, refl, refl)
