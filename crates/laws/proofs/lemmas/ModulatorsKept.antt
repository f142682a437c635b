-- Every call on the modulators keeps them sound, and so do the updates of a tweener and of an LFO: a tweener's value
-- stays in -2^40..2^40, an LFO's phase and value stay numbers. RULES, no-nan. Assumes nothing.
use Prim.Native.Nat.{ℕ}
use native.Mathlib.Omega.{arith}
use mathlib.Core.Path.{◌≡◌, refl, subst}
use mathlib.Core.Bool.{Bool, true, false, cond, false≢true}
use lib.IntN.{pos, negsuc}
use lib.Dec.{T, eqb}
use lib.Ieee.{Float, fin, binary64, add, mul, div, of_int, lt, le, fits}
use lib.Ieee.Fits.{add-fits, div-fits, rem-fits}
use borrow.Author.Tests.{ne_eqb}
use Rattle.doubles.specs.Doubles.{zero_f, one_f, two_f}
use Rattle.doubles.proofs.Unit.{le_trans, between_wider}
use Rattle.ids.specs.Keys.{lives_in}
use Rattle.ids.proofs.Names as names
use Rattle.times.specs.Durations.{seconds_of}
use Rattle.judge.specs.Judge.{no_faults, both_faults, dt_faults, float_faults, first_fault}
use Rattle.judge.specs.declared.Faults.{Faults}
use Rattle.times.specs.declared.start_time.When.{When}
use Rattle.times.specs.Easings.{tween_faults}
use Rattle.values.specs.Tweenables.{float_tweens}
use Rattle.values.specs.Values.{value_faults}
use Rattle.waveform.specs.Waves.{wave_faults, wave_value_of}
use Rattle.times.specs.declared.tween.Tween.{Tween}
use Rattle.values.specs.declared.value.ModulatorId.{ModulatorId}
use Rattle.waveform.specs.declared.Waveform.{Waveform}
use Rattle.parameter.specs.Courses.{started_of, waits, step_of, amount_at}
use Rattle.parameter.specs.Parameters.{set_of, target_faults}
use Rattle.parameter.specs.declared.course.Course.{Course}
use Rattle.parameter.specs.declared.course.Stepped.{Stepped}
use Rattle.parameter.specs.declared.course.Stepped.TheVariants.{Waits, Goes, Ends}
use Rattle.parameter.specs.declared.Parameter.{Parameter}
use Rattle.modulator.specs.Tweeners.{new_tweener, tweener_faults, tweener_to_of, by_step, by_state, moved_of, update_tweener_of}
use Rattle.modulator.specs.Lfos.{tau, builder_faults, new_lfo, parameter_of, with_parameter_of, with_wave_of, with_phase_of, updated_by, phase_by, value_by, update_lfo_of}
use Rattle.modulator.specs.declared.lfo.Lfo.{Lfo}
use Rattle.modulator.specs.declared.lfo.LfoBuilder.{LfoBuilder}
use Rattle.modulator.specs.declared.lfo.LfoParameter.{LfoParameter}
use Rattle.modulator.specs.declared.lfo.LfoParameter.TheVariants.{Frequency, Amplitude, Offset}
use Rattle.modulator.specs.declared.lfo.LfoSight.{LfoSight}
use Rattle.parameter.specs.declared.Sight.{Sight}
use Rattle.modulator.specs.declared.tweener.Tweener.{Tweener}
use Rattle.modulator.specs.declared.tweener.TweenerMove.{TweenerMove}
use Rattle.modulator.specs.declared.tweener.TweenerState.{TweenerState}
use Rattle.modulator.specs.declared.tweener.TweenerState.TheVariants.{Idle, Tweening}
use Rattle.modulator_table.specs.ModulatorTables as tables
use Rattle.ids.specs.Tables.{refused_call, where_is, freed}
use Rattle.modulator_table.specs.ModulatorTables.{ModulatorDone, modulator_table, parameter_by, slot_of, put_of, on_modulator, changed_to, change_judged, on_tweener, on_lfo}
use Rattle.modulator_table.specs.declared.Modulator.{Modulator}
use Rattle.modulator_table.specs.declared.Modulator.TheVariants.{OfTweener, OfLfo}
use Rattle.modulator_table.specs.declared.Modulators.{Modulators}
use Rattle.commands.specs.ModulatorCommands.{run_modulator_of}
use Rattle.commands.specs.declared.modulator_command.ModulatorCommand.{ModulatorCommand}
use Rattle.commands.specs.declared.modulator_command.ModulatorCommand.TheVariants as command
use Rattle.laws.specs.Sound.{Double, Within, Sized, SoundInput, SoundCourse, floats, SoundFloat}
use Rattle.laws.specs.SoundStation.{SoundMove, SoundTweener, SoundTweenerState, SoundWave, SoundLfo, SoundModulator, SoundSlot, SoundModulators, BuilderDoubles, ModulatorDoubles}
use Rattle.laws.proofs.lemmas.Accepted.{no_faults_lem, judged_case}
use Rattle.laws.proofs.lemmas.Cases.{added_lem}
use Rattle.laws.proofs.lemmas.Every.{all_set, found_all}
use Rattle.laws.proofs.lemmas.Floats.{float_sized, float_mixes}
use Rattle.laws.proofs.lemmas.Parameters.{new_sound, begin_sound, update_sound}
use Rattle.laws.proofs.lemmas.Signed.{within_finite, lerp_within}
use Rattle.laws.proofs.lemmas.Underway.{SoundStepped, amount_unit, begun, step_sound}
use Rattle.laws.proofs.lemmas.Waves.{next_phase, set_phase, wave_within, value_within}

-- ---- tweeners

pub new_tweener_lem : (x : Float) → Double x → float_faults x ≡ no_faults → SoundTweener (new_tweener x)
new_tweener_lem x F h = record { state = tt; value = float_sized x F h }

set_tweener_lem : (x : Float) (w : Tween) (t : Tweener) → Double x → tweener_faults x w ≡ no_faults → SoundTweener t → SoundTweener (tweener_to_of x w t)
set_tweener_lem x w t F h s =
    let a = no_faults_lem (float_faults x) (tween_faults w) h in
    record { state = record { start = s.value; target = float_sized x F a.0; course = begun w a.1 }; value = s.value }

-- a course that goes on has not come to its duration
short : (c : Course) (dt : Float) (w : When) (d : Course) → step_of c dt w ≡ Goes d → le (seconds_of d.tween.duration) d.time ≡ false
unfolding step_of
short c dt w d e = go (started_of c.tween.start_time w) (le (seconds_of c.tween.duration) time) refl e
  where
    time : Float
    time = add binary64 c.time dt

    go : (a b : Bool) → le (seconds_of c.tween.duration) time ≡ b → cond a (cond b Ends (Goes (record { tween = c.tween; time = time }))) (Waits (waits c dt)) ≡ Goes d → le (seconds_of d.tween.duration) d.time ≡ false
    go true true h e = absurd (false≢true cc)
    go true false h e = let q : record { tween = c.tween; time = time } ≡ d = cc in subst (λ (z : Course). le (seconds_of z.tween.duration) z.time ≡ false) q h
    go false b h e = absurd (false≢true cc)

-- so that its duration is not zero, since a tween of none ends at its first passing: RULES, end
lasting : (d : Course) → SoundCourse d → le (seconds_of d.tween.duration) d.time ≡ false → eqb d.tween.duration 0 ≡ false
lasting d s h = ne_eqb d.tween.duration 0 (λ z. over d.tween.duration z h)
  where
    none : T (le (seconds_of 0) zero_f)
    none = unfold seconds_of of_int div add le in tt

    over : (n : ℕ) → n ≡ 0 → le (seconds_of n) d.time ≡ false → ⊥
    over n z h = subst T (rw z at h) (le_trans (seconds_of 0) zero_f d.time none s.running.least)

pub update_tweener : (t : Tweener) (dt : Float) (w : When) → SoundTweener t → dt_faults dt ≡ no_faults → SoundTweener (update_tweener_of t dt w)
unfolding update_tweener_of moved_of
update_tweener t dt w s h = go t.state s.state
  where
    stepped : (m : TweenerMove) → SoundMove m → (r : Stepped) → step_of m.course dt w ≡ r → SoundStepped r → SoundTweener (by_step m r t.value)
    stepped m k (Waits c) e q = record { state = record { start = k.start; target = k.target; course = q }; value = s.value }
    stepped m k (Goes c) e q = record {
      state = record { start = k.start; target = k.target; course = q };
      value = lerp_within m.start m.target (amount_at c) k.start k.target (amount_unit c q (lasting c q (short m.course dt w c e)));
    }
    stepped m k Ends e q = record { state = tt; value = k.target }

    go : (r : TweenerState) → SoundTweenerState r → SoundTweener (by_state t r dt w)
    go Idle k = s
    go (Tweening m) k = stepped m k (step_of m.course dt w) refl (step_sound m.course dt w k.course h)

-- ---- LFOs

phase_sized : (x : Float) → Sized x → Sized (div binary64 x tau)
phase_sized x h = (div-fits binary64 x tau, set_phase x 884279719003555 (negsuc 46) h.1 (omega arith))

pub new_lfo_lem : (b : LfoBuilder) → BuilderDoubles b → builder_faults b ≡ no_faults → SoundLfo (new_lfo b)
new_lfo_lem b F h =
    let a = no_faults_lem (both_faults (wave_faults b.waveform) (float_faults b.starting_phase)) (both_faults (value_faults float_tweens b.frequency) (both_faults (value_faults float_tweens b.amplitude) (value_faults float_tweens b.offset))) h in
    let c = no_faults_lem (wave_faults b.waveform) (float_faults b.starting_phase) a.0 in
    let d = no_faults_lem (value_faults float_tweens b.frequency) (both_faults (value_faults float_tweens b.amplitude) (value_faults float_tweens b.offset)) a.1 in
    let e = no_faults_lem (value_faults float_tweens b.amplitude) (value_faults float_tweens b.offset) d.1 in
    record {
      waveform = record { doubles = F.waveform; accepted = c.0 };
      frequency = new_sound floats float_mixes b.frequency two_f F.frequency (unfold fits in tt) d.0 (unfold lt in refl);
      amplitude = new_sound floats float_mixes b.amplitude one_f F.amplitude (unfold fits in tt) e.0 (unfold lt in refl);
      offset = new_sound floats float_mixes b.offset zero_f F.offset (unfold fits in tt) e.1 (unfold lt in refl);
      phase = phase_sized b.starting_phase (float_sized b.starting_phase F.phase c.1);
      value = (unfold fits in tt, tt);
    }

parameter_sound : (l : Lfo) (k : LfoParameter) → SoundLfo l → SoundFloat (parameter_of l k)
parameter_sound l Frequency s = s.frequency
parameter_sound l Amplitude s = s.amplitude
parameter_sound l Offset s = s.offset

with_parameter : (k : LfoParameter) (p : Parameter Float) (l : Lfo) → SoundFloat p → SoundLfo l → SoundLfo (with_parameter_of k p l)
with_parameter Frequency p l h s = record { waveform = s.waveform; frequency = h; amplitude = s.amplitude; offset = s.offset; phase = s.phase; value = s.value }
with_parameter Amplitude p l h s = record { waveform = s.waveform; frequency = s.frequency; amplitude = h; offset = s.offset; phase = s.phase; value = s.value }
with_parameter Offset p l h s = record { waveform = s.waveform; frequency = s.frequency; amplitude = s.amplitude; offset = h; phase = s.phase; value = s.value }

with_wave_lem : (w : Waveform) (l : Lfo) → SoundWave w → SoundLfo l → SoundLfo (with_wave_of w l)
with_wave_lem w l h s = record { waveform = h; frequency = s.frequency; amplitude = s.amplitude; offset = s.offset; phase = s.phase; value = s.value }

with_phase : (x : Float) (l : Lfo) → Sized x → SoundLfo l → SoundLfo (with_phase_of x l)
with_phase x l h s = record { waveform = s.waveform; frequency = s.frequency; amplitude = s.amplitude; offset = s.offset; phase = phase_sized x h; value = s.value }

-- what an LFO's parameters see is sound
pub record SoundSight (s : LfoSight) : Type 0 where
  pub frequency : SoundInput s.frequency.input
  pub amplitude : SoundInput s.amplitude.input
  pub offset : SoundInput s.offset.input

pub update_lfo : (l : Lfo) (dt : Float) (s : LfoSight) → SoundLfo l → dt_faults dt ≡ no_faults → SoundSight s → SoundLfo (update_lfo_of l dt s)
unfolding update_lfo_of
update_lfo l dt s k h q =
    let f = updated l.frequency s.frequency k.frequency q.frequency in
    let a = updated l.amplitude s.amplitude k.amplitude q.amplitude in
    let o = updated l.offset s.offset k.offset q.offset in
    made (updated_by l.frequency dt s.frequency) (updated_by l.amplitude dt s.amplitude) (updated_by l.offset dt s.offset) f a o
  where
    updated : (p : Parameter Float) (v : Sight) → SoundFloat p → SoundInput v.input → SoundFloat (updated_by p dt v)
    updated p v i j = update_sound floats float_mixes p i dt v.when v.input h j

    made : (f a o : Parameter Float) → SoundFloat f → SoundFloat a → SoundFloat o → SoundLfo (record { waveform = l.waveform; frequency = f; amplitude = a; offset = o; phase = phase_by l.phase dt f; value = value_by l.waveform a o (phase_by l.phase dt f) })
    made f a o F A O =
        let p : Float = phase_by l.phase dt f in
        let w : Within 0 p = next_phase l.phase dt f.raw k.phase.1 h F.raw.1 in
        let v : Float = wave_value_of l.waveform p in
        record {
          waveform = k.waveform;
          frequency = F;
          amplitude = A;
          offset = O;
          phase = (rem-fits binary64 _ one_f (add-fits binary64 l.phase (mul binary64 dt f.raw)), between_wider (fin true 1 (pos 40)) (fin true 1 (pos 0)) p (fin false 1 (pos 0)) (fin false 1 (pos 40)) (unfold le in tt) (unfold le in tt) w);
          value = (add-fits binary64 o.raw (mul binary64 a.raw v), within_finite 42 _ (value_within o.raw a.raw v O.raw.1 A.raw.1 (wave_within l.waveform p w)));
        }

-- ---- the table

module _ (t : Modulators) (s : SoundModulators t) where
  put_sound : (i : ℕ) (m : Modulator) → SoundModulator m → SoundModulators (changed_to t i m).table
  put_sound i m k = record { keys = s.keys; entries = all_set SoundSlot t.slots i (slot_of m) k s.entries }

  added_sound : (f : Faults) (m : Modulator) → (f ≡ no_faults → SoundModulator m) → SoundModulators (put_of t f m).table
  added_sound f m h =
      added_lem modulator_table t f (slot_of m) (λ r. SoundModulators r.table) (λ n z. s) (λ i g z e.
      record { keys = names.add_numbered t.keys i g e s.keys; entries = all_set SoundSlot t.slots i (slot_of m) (h z) s.entries })

  changed_sound : (i : ℕ) (f : Faults) (m : Modulator) → (f ≡ no_faults → SoundModulator m) → SoundModulators (change_judged t i f m).table
  changed_sound i f m h = judged_case (λ (r : ModulatorDone). SoundModulators r.table) f (changed_to t i m) (refused_call modulator_table t (first_fault f)) (λ e. put_sound i m (h e)) s

  module _ (id : ModulatorId) where
    on_found_lem :
        (f : ℕ → Modulator → ModulatorDone)
        → (lives_in t.keys id.slot id.generation ≡ true → (m : Modulator) → SoundModulator m → SoundModulators (f id.slot m).table)
        → SoundModulators (on_modulator t (where_is modulator_table t id) f).table
    on_found_lem f h = found_all modulator_table t id (λ r. SoundModulators r.table) SoundSlot (λ i v. f i v.modulator) (λ n. s) (λ l v k. h l v.modulator k) s.entries

    tweener_sound : (f : ℕ → Tweener → ModulatorDone) → ((w : Tweener) → SoundTweener w → SoundModulators (f id.slot w).table) → SoundModulators (on_modulator t (where_is modulator_table t id) (λ i m. on_tweener t m (f i))).table
    tweener_sound f h = on_found_lem (λ i m. on_tweener t m (f i)) (λ l m. go m)
      where
        go : (m : Modulator) → SoundModulator m → SoundModulators (on_tweener t m (f id.slot)).table
        go (OfTweener w) k = h w k
        go (OfLfo l) k = s

    lfo_sound : (f : ℕ → Lfo → ModulatorDone) → ((l : Lfo) → SoundLfo l → SoundModulators (f id.slot l).table) → SoundModulators (on_modulator t (where_is modulator_table t id) (λ i m. on_lfo t m (f i))).table
    lfo_sound f h = on_found_lem (λ i m. on_lfo t m (f i)) (λ l m. go m)
      where
        go : (m : Modulator) → SoundModulator m → SoundModulators (on_lfo t m (f id.slot)).table
        go (OfTweener w) k = s
        go (OfLfo l) k = h l k

  pub run_modulator_sound : (c : ModulatorCommand) → ModulatorDoubles c → SoundModulators (run_modulator_of t c).table
  unfolding run_modulator_of tables.add_tweener_of tables.add_lfo_of tables.remove_of tables.set_tweener_of tables.set_parameter_of tables.set_waveform_of tables.set_phase_of
  run_modulator_sound (command.AddTweener x) F = added_sound (float_faults x) (OfTweener (new_tweener x)) (new_tweener_lem x F)
  run_modulator_sound (command.AddLfo b) F = added_sound (builder_faults b) (OfLfo (new_lfo b)) (new_lfo_lem b F)
  run_modulator_sound (command.Remove id) F =
      on_found_lem id (λ i m. freed modulator_table t i id.generation) (λ l m k. record { keys = names.remove_numbered t.keys id.slot id.generation l s.keys; entries = s.entries })
  run_modulator_sound (command.SetTweener id x w) F =
      tweener_sound id (λ i old. change_judged t i (tweener_faults x w) (OfTweener (tweener_to_of x w old))) (λ old k.
      changed_sound id.slot (tweener_faults x w) (OfTweener (tweener_to_of x w old)) (λ e. set_tweener_lem x w old F e k))
  run_modulator_sound (command.SetParameter id p v w) F =
      lfo_sound id (λ i old. change_judged t i (target_faults float_tweens v w) (OfLfo (parameter_by old p v w))) (λ old k.
      changed_sound id.slot (target_faults float_tweens v w) (OfLfo (parameter_by old p v w)) (λ e.
      with_parameter p (set_of (parameter_of old p) v w) old (begin_sound floats float_mixes (parameter_of old p) (parameter_sound old p k) v w F e refl) k))
  run_modulator_sound (command.SetWaveform id w) F =
      lfo_sound id (λ i old. change_judged t i (wave_faults w) (OfLfo (with_wave_of w old))) (λ old k.
      changed_sound id.slot (wave_faults w) (OfLfo (with_wave_of w old)) (λ e. with_wave_lem w old (record { doubles = F; accepted = e }) k))
  run_modulator_sound (command.SetPhase id x) F =
      lfo_sound id (λ i old. change_judged t i (float_faults x) (OfLfo (with_phase_of x old))) (λ old k.
      changed_sound id.slot (float_faults x) (OfLfo (with_phase_of x old)) (λ e. with_phase x old (float_sized x F e) k))
  run_modulator_sound (command.Value id) F = s
