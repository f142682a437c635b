-- Mixes of doubles: a parameter of doubles stays sound under every call, so its value is always finite
-- (`sound_value`). RULES, no-nan. Assumes nothing.
use mathlib.Core.Path.{◌≡◌, refl, ap}
use mathlib.Core.Bool.{false, true≢false}
use lib.IntN.{pos}
use lib.Dec.{T}
use lib.Ieee.{Float, nan, inf, fin, is_nan}
use lib.Ieee.Scale.{finite}
use Rattle.doubles.proofs.Unit.{le→order, le_of_not_lt}
use Rattle.judge.specs.Judge.{no_faults, both_faults, float_faults, bad_float}
use Rattle.judge.specs.declared.Faults.{Faults}
use Rattle.times.specs.Easings.{ease_faults}
use Rattle.values.specs.Tweenables.{float_tweens}
use Rattle.values.specs.Values.{amount_of, map_faults, range_faults, mapping_faults, map_of}
use Rattle.values.specs.declared.value.Mapping.{Mapping}
use Rattle.values.proofs.value.Eased.{accepted_amount_unit}
use Rattle.parameter.specs.declared.Parameter.{Parameter}
use Rattle.laws.specs.Sound.{Double, Sized, floats, MappingDoubles, SoundFloat}
use Rattle.laws.proofs.lemmas.Accepted.{no_faults_lem}
use Rattle.laws.proofs.lemmas.Parameters.{Mixes}
use Rattle.laws.proofs.lemmas.Signed.{within_finite, of_size, lerp_within}

-- a double that is not refused
accepted_sized : (x : Float) → Double x → bad_float x ≡ false → Sized x
accepted_sized nan F h = absurd (true≢false h)
accepted_sized (inf s) F h = absurd (true≢false h)
accepted_sized (fin s m e) F h = (F, of_size 40 (fin s m e) tt (le→order false m e false 1 (pos 40) (le_of_not_lt (fin false 1 (pos 40)) (fin false m e) (unfold is_nan in refl) (unfold is_nan in refl) h)))

pub float_sized : (x : Float) → Double x → float_faults x ≡ no_faults → Sized x
float_sized x F h = accepted_sized x F (ap (λ (r : Faults). r.float) h)

mapped_sized : (m : Mapping Float) (x : Float) → MappingDoubles floats m → T (finite x) → mapping_faults float_tweens m ≡ no_faults → Sized (map_of float_tweens m x)
unfolding map_of
mapped_sized m x F X h =
    let lo = m.in_lo in
    let hi = m.in_hi in
    let a = no_faults_lem (range_faults lo hi m.easing) (both_faults (float_faults m.out_lo) (float_faults m.out_hi)) h in
    let o = no_faults_lem (float_faults m.out_lo) (float_faults m.out_hi) a.1 in
    let b = no_faults_lem (both_faults (map_faults lo hi) (ease_faults m.easing)) (both_faults (float_faults lo) (float_faults hi)) a.0 in
    let i = no_faults_lem (float_faults lo) (float_faults hi) b.1 in
    let d = no_faults_lem (map_faults lo hi) (ease_faults m.easing) b.0 in
    lerp_within m.out_lo m.out_hi (amount_of lo hi m.easing x) (float_sized m.out_lo F.out_lo o.0) (float_sized m.out_hi F.out_hi o.1)
    (accepted_amount_unit lo hi m.easing x F.in_lo F.in_hi X (ap (λ (r : Faults). r.float) i.0) (ap (λ (r : Faults). r.float) i.1) (ap (λ (r : Faults). r.map) d.0))

-- every double can be read, whatever it is tweened to
pub float_mixes : Mixes floats Sized
float_mixes = record {
  accepted = float_sized;
  mapped = mapped_sized;
  reads = λ a m x. refl;
  shown = λ x h. h;
  mixed = λ a b t h k e u. lerp_within a b t h k u;
}

pub sound_value : (p : Parameter Float) → SoundFloat p → T (finite p.raw)
sound_value p s = within_finite 40 p.raw s.raw.1
