-- The number that a call on the modulators is given: its id's where nothing lives under it, NEVER_ISSUED where what
-- lives there is not of the kind that the call is for, else that of its arguments, and of an add, NO_ROOM where there
-- is none. RULES, order. Assumes nothing.
use Prim.Native.Nat.{ℕ}
use mathlib.Core.Path.{◌≡◌, refl, sym, ap, ◌∙◌}
use mathlib.Core.Bool.{Bool, true, false, not, ◌||◌, cond}
use lib.Dec.{eqb}
use Rattle.ids.specs.Keys.{lives_in}
use Rattle.judge.specs.Answer.{number_told}
use Rattle.judge.specs.Numbers.{«GONE», NEVER_ISSUED}
use Rattle.judge.specs.Judge.{no_faults, float_faults, first_fault}
use Rattle.judge.specs.declared.Faults.{Faults}
use Rattle.waveform.specs.Waves.{wave_faults}
use Rattle.values.specs.declared.value.ModulatorId.{ModulatorId}
use Rattle.values.specs.Tweenables.{float_tweens}
use Rattle.parameter.specs.Parameters.{target_faults}
use Rattle.modulator.specs.Tweeners.{new_tweener, tweener_to_of, tweener_faults}
use Rattle.modulator.specs.Lfos.{builder_faults, new_lfo, with_wave_of, with_phase_of}
use Rattle.modulator.specs.declared.lfo.Lfo.{Lfo}
use Rattle.modulator.specs.declared.tweener.Tweener.{Tweener}
use Rattle.ids.specs.Tables.{where_is, refused_call, freed}
use Rattle.modulator_table.specs.ModulatorTables.{modulator_table, slot_value, slot_of, parameter_by, add_tweener_of, add_lfo_of, on_modulator, changed_to, remove_of, on_tweener, on_lfo, set_tweener_of, set_parameter_of, set_waveform_of, set_phase_of, modulator_value_of, ModulatorDone}
use Rattle.modulator_table.specs.declared.Modulator.{Modulator}
use Rattle.modulator_table.specs.declared.Modulator.TheVariants.{OfTweener, OfLfo}
use Rattle.modulator_table.specs.declared.Modulators.{Modulators}
use Rattle.modulator_table.specs.declared.Slot.{Slot}
use Rattle.commands.specs.Answers.{value}
use Rattle.commands.specs.ModulatorCommands.{done_as, run_modulator_of}
use Rattle.commands.specs.declared.modulator_command.ModulatorCommand.{ModulatorCommand}
use Rattle.commands.specs.declared.modulator_command.ModulatorCommand.TheVariants as command
use Rattle.station.specs.declared.Station.{Station}
use Rattle.laws.specs.Calls.{modulator, call_number}
use Rattle.laws.proofs.Refusals.{told_number}
use Rattle.laws.proofs.lemmas.Entries.{Holds, holds_read}
use Rattle.demands.specs.Conditions.{gone_in, never_in, is_tweener, is_lfo, other_kind, by_kind, of_modulators}
use Rattle.demands.specs.Entries.{Sized}
use Rattle.demands.specs.Order.{order, holds, first_in}
use Rattle.demands.proofs.lemmas.Asked.{judged_number, id_given}
use Rattle.demands.proofs.lemmas.Lookups.{number_by_id, entry_number, read_number, add_number}

module _ (st : Station) where
  abbrev at : Modulators
  at = st.modulators

  -- the modulator changed where a number is 0, and refused by it elsewhere
  set_number : (i n : ℕ) (m : Modulator) → (cond (eqb n 0) (changed_to at i m) (refused_call modulator_table at n)).refused ≡ n
  set_number i n m = judged_number (λ (r : ModulatorDone). r.refused) (changed_to at i m) (refused_call modulator_table at n) n refl refl

  module _ (w : Sized at.keys at.slots) (id : ModulatorId) where
    -- the number by the conditions of the id, or else n
    abbrev by_modulator_id : ℕ → ℕ
    by_modulator_id n = number_by_id at.keys id.slot id.generation n

    -- a call that changes a modulator is judged by its id, and behind it by the number n
    by_id : (f : ℕ → Modulator → ModulatorDone) (n : ℕ) → (lives_in at.keys id.slot id.generation ≡ true → (s : Slot) → Holds at.slots id.slot s → (f id.slot s.modulator).refused ≡ n)
        → number_told (done_as (on_modulator at (where_is modulator_table at id) f)).answer ≡ by_modulator_id n
    by_id f n h =
        entry_number at.keys at.slots w id.slot id.generation (λ (r : ModulatorDone). number_told (done_as r).answer) (refused_call modulator_table at) told_number
        (λ i s. f i s.modulator) n (λ l s k. told_number (f id.slot s.modulator).refused ∙ h l s k)

    -- the other kind is asked where the id lives
    kind_given : (t : Modulator → Bool) (f : Faults) → by_modulator_id (cond (other_kind t st id) NEVER_ISSUED (first_fault f)) ≡ first_in order (holds (by_kind t st id f))
    kind_given t f = ap (λ (n : ℕ). cond gone «GONE» n) (go never) ∙ sym (id_given gone (never || other_kind t st id) f)
      where
        gone : Bool
        gone = gone_in at.keys id.slot id.generation

        never : Bool
        never = never_in at.keys id.slot id.generation

        go : (b : Bool) → cond b NEVER_ISSUED (cond (other_kind t st id) NEVER_ISSUED (first_fault f)) ≡ cond (b || other_kind t st id) NEVER_ISSUED (first_fault f)
        go true = refl
        go false = refl

    -- a call that acts on a modulator of the kind that t tells, and is judged by n
    on_number :
        (t : Modulator → Bool) (n : ℕ) (f : ℕ → Modulator → ModulatorDone) → ((m : Modulator) → (f id.slot m).refused ≡ cond (not (t m)) NEVER_ISSUED n)
        → number_told (done_as (on_modulator at (where_is modulator_table at id) f)).answer ≡ by_modulator_id (cond (other_kind t st id) NEVER_ISSUED n)
    on_number t n f h =
        by_id f (cond (other_kind t st id) NEVER_ISSUED n)
        (λ l s k. h s.modulator ∙ rw (l, holds_read false (λ (s : Slot). t s.modulator) at.slots id.slot s k) refl)

    tweener_number : (n : ℕ) (to : Tweener → Modulator) (m : Modulator) → (on_tweener at m (λ old. cond (eqb n 0) (changed_to at id.slot (to old)) (refused_call modulator_table at n))).refused ≡ cond (not (is_tweener m)) NEVER_ISSUED n
    tweener_number n to (OfTweener old) = set_number id.slot n (to old)
    tweener_number n to (OfLfo old) = refl

    lfo_number : (n : ℕ) (to : Lfo → Modulator) (m : Modulator) → (on_lfo at m (λ old. cond (eqb n 0) (changed_to at id.slot (to old)) (refused_call modulator_table at n))).refused ≡ cond (not (is_lfo m)) NEVER_ISSUED n
    lfo_number n to (OfTweener old) = refl
    lfo_number n to (OfLfo old) = set_number id.slot n (to old)

pub modulator_number :
    (st : Station) → Sized st.modulators.keys st.modulators.slots → (c : ModulatorCommand)
    → call_number st (modulator c) ≡ first_in order (holds (of_modulators st c))
unfolding run_modulator_of add_tweener_of add_lfo_of remove_of set_tweener_of set_parameter_of set_waveform_of set_phase_of modulator_value_of first_fault
modulator_number st w (command.AddTweener x) = add_number modulator_table st.modulators (float_faults x) (slot_of (OfTweener (new_tweener x))) _
modulator_number st w (command.AddLfo b) = add_number modulator_table st.modulators (builder_faults b) (slot_of (OfLfo (new_lfo b))) _
modulator_number st w (command.Remove id) = by_id st w id (λ i m. freed modulator_table st.modulators i id.generation) 0 (λ l s k. refl) ∙ sym (id_given _ _ no_faults)
modulator_number st w (command.SetTweener id x y) =
    on_number st w id is_tweener (first_fault (tweener_faults x y)) _ (tweener_number st w id (first_fault (tweener_faults x y)) (λ old. OfTweener (tweener_to_of x y old)))
    ∙ kind_given st w id is_tweener (tweener_faults x y)
modulator_number st w (command.SetParameter id p v y) =
    on_number st w id is_lfo (first_fault (target_faults float_tweens v y)) _ (lfo_number st w id (first_fault (target_faults float_tweens v y)) (λ old. OfLfo (parameter_by old p v y)))
    ∙ kind_given st w id is_lfo (target_faults float_tweens v y)
modulator_number st w (command.SetWaveform id y) =
    on_number st w id is_lfo (first_fault (wave_faults y)) _ (lfo_number st w id (first_fault (wave_faults y)) (λ old. OfLfo (with_wave_of y old)))
    ∙ kind_given st w id is_lfo (wave_faults y)
modulator_number st w (command.SetPhase id x) =
    on_number st w id is_lfo (first_fault (float_faults x)) _ (lfo_number st w id (first_fault (float_faults x)) (λ old. OfLfo (with_phase_of x old)))
    ∙ kind_given st w id is_lfo (float_faults x)
modulator_number st w (command.Value id) = read_number st.modulators.keys st.modulators.slots w id.slot id.generation slot_value value ∙ sym (id_given _ _ no_faults)
