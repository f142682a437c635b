-- Mixes of speeds: a speed parameter stays sound under every call, so its ticks per second are always finite and not
-- negative (`sound_rate`). RULES, running-speeds. Assumes nothing.
use mathlib.Core.Path.{◌≡◌, refl, ap, ◌∙◌}
use mathlib.Core.Bool.{false}
use lib.IntN.{negsuc}
use lib.Dec.{T}
use lib.Ieee.{Float, fin, le}
use lib.Ieee.Scale.{finite}
use Rattle.doubles.specs.Doubles.{zero_f}
use Rattle.judge.specs.Judge.{no_faults}
use Rattle.judge.specs.declared.Faults.{Faults}
use Rattle.values.specs.RunningSpeeds.{Reachable, number_of}
use Rattle.values.specs.Speeds.{tps_of, bad_reading, speed_faults, read_faults, speed_tweens}
use Rattle.values.specs.Values.{map_of}
use Rattle.values.specs.declared.clock_speed.ClockSpeed.{ClockSpeed}
use Rattle.values.specs.declared.clock_speed.ClockSpeed.TheVariants.{SecondsPerTick, TicksPerSecond, TicksPerMinute}
use Rattle.values.specs.declared.value.Mapping.{Mapping}
use Rattle.values.proofs.clock_speed.Rates.{like, mix_is, accepted_above, above_wider, interpolated_running, rate}
use Rattle.values.proofs.value.Eased.{mapped_reachable}
use Rattle.parameter.specs.declared.Parameter.{Parameter}
use Rattle.laws.specs.Sound.{Double, speeds, SoundSpeed}
use Rattle.laws.proofs.lemmas.Parameters.{Mixes}

same_reading : (a b : ClockSpeed) (x : Float) → bad_reading a (like b x) ≡ bad_reading a b
same_reading a (SecondsPerTick y) x = refl
same_reading a (TicksPerSecond y) x = refl
same_reading a (TicksPerMinute y) x = refl

mapped_reading : (a : ClockSpeed) (m : Mapping ClockSpeed) (x : Float) → read_faults a (map_of speed_tweens m x) ≡ read_faults a m.out_hi
unfolding map_of
mapped_reading a m x = ap (read_faults a) (mix_is m.out_lo m.out_hi _) ∙ rw (same_reading a m.out_hi _)

accepted_reachable : (s : ClockSpeed) → Double (number_of s) → speed_faults s ≡ no_faults → Reachable s
accepted_reachable s F h = above_wider (fin false 1 (negsuc 20)) (fin false 1 (negsuc 19)) s (unfold le in tt) (accepted_above s F (ap (λ (r : Faults). r.speed) h))

-- a start that cannot be read in the target's unit is refused: RULES, bad-reading
pub speed_mixes : Mixes speeds Reachable
speed_mixes = record {
  accepted = accepted_reachable;
  mapped = λ m x F X h. mapped_reachable m x F.in_lo F.in_hi F.out_lo F.out_hi X h;
  reads = mapped_reading;
  shown = λ s h. above_wider (fin false 1 (negsuc 26)) (fin false 1 (negsuc 20)) s (unfold le in tt) h;
  mixed = λ a b t h k e u. interpolated_running a b t h k (ap (λ (r : Faults). r.speed) e) u;
}

pub sound_rate : (p : Parameter ClockSpeed) → SoundSpeed p → T (finite (tps_of p.raw)) × T (le zero_f (tps_of p.raw))
sound_rate p s = rate p.raw s.raw
