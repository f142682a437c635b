-- Document 01, "Names that cannot be shared", "modulator/tweener.rs; lfo.rs" and "What must change shape": the calls
-- on the table of modulators, whose entries are tweeners and LFOs: RULES, modulator-kinds. Assumes nothing.
use Rattle.std.specs.Prelude.{ℕ, replicate, Float}
use Rattle.doubles.specs.Doubles.{zero_f}
use Rattle.ids.specs.Keys.{left_at}
use Rattle.ids.specs.Tables.{Table, Added, Done, where_is, refused_call, on_found, changed, freed, read_found, added_to}
use Rattle.judge.specs.Answer.{Answer}
use Rattle.judge.specs.Numbers.{NEVER_ISSUED}
use Rattle.judge.specs.Judge.{float_faults, first_fault, decided}
use Rattle.judge.specs.declared.Faults.{Faults}
use Rattle.waveform.specs.Waves.{wave_faults}
use Rattle.times.specs.declared.tween.Tween.{Tween}
use Rattle.values.specs.Tweenables.{float_tweens}
use Rattle.values.specs.declared.value.Value.{Value}
use Rattle.values.specs.declared.value.ModulatorId.{ModulatorId}
use Rattle.waveform.specs.declared.Waveform.{Waveform}
use Rattle.parameter.specs.Parameters.{target_faults}
use Rattle.modulator.specs.Tweeners.{new_tweener, tweener_to_of, tweener_faults}
use Rattle.modulator.specs.Lfos.{builder_faults, new_lfo, with_wave_of, with_phase_of}
pub use Rattle.modulator.specs.Lfos.{parameter_by}
use Rattle.modulator.specs.declared.tweener.Tweener.{Tweener}
use Rattle.modulator.specs.declared.lfo.LfoBuilder.{LfoBuilder}
use Rattle.modulator.specs.declared.lfo.Lfo.{Lfo}
use Rattle.modulator.specs.declared.lfo.LfoParameter.{LfoParameter}
use Rattle.modulator_table.specs.declared.Modulator.{Modulator}
use Rattle.modulator_table.specs.declared.Modulator.TheVariants.{OfTweener, OfLfo}
use Rattle.modulator_table.specs.declared.Slot.{Slot}
use Rattle.modulator_table.specs.declared.Modulators.{Modulators}

abbrev pub value_of : Modulator → Float
value_of (OfTweener t) = t.value
value_of (OfLfo l) = l.value

-- what a slot shows: RULES, seen-modulator
abbrev pub slot_value : Slot → Float
slot_value s = value_of s.modulator

abbrev pub slot_of : Modulator → Slot
slot_of m = record { modulator = m }

-- what an unused slot holds before its first modulator, a tweener at 0: RULES, empty-slot
abbrev pub no_modulators : Modulators
no_modulators = record { keys = replicate 16 (left_at 0); slots = replicate 16 (slot_of (OfTweener (new_tweener zero_f))) }

-- 0 or the number of a refusal, beside the table
abbrev pub ModulatorDone : Type 0
ModulatorDone = Done Modulators

-- this kind of table: what the calls of both kinds share is said in `Tables` of the crate `ids`
abbrev pub modulator_table : Table Modulators Slot ModulatorId ModulatorDone
modulator_table = record {
  keys_of = λ t. t.keys;
  entries_of = λ t. t.slots;
  table_of = λ ks ss. record { keys = ks; slots = ss };
  slot_in = λ id. id.slot;
  generation_in = λ id. id.generation;
  id_at = λ i g. record { slot = i; generation = g };
  done_as = λ n t. record { refused = n; table = t };
}

-- ---- adding

-- a modulator with these faults
abbrev pub put_of : Modulators → Faults → Modulator → Added Modulators ModulatorId
put_of t f m = added_to modulator_table t f (slot_of m)

unfoldable pub add_tweener_of : Modulators → Float → Added Modulators ModulatorId
add_tweener_of t x = put_of t (float_faults x) (OfTweener (new_tweener x))

unfoldable pub add_lfo_of : Modulators → LfoBuilder → Added Modulators ModulatorId
add_lfo_of t b = put_of t (builder_faults b) (OfLfo (new_lfo b))

-- ---- by an id

-- a call on the modulator in the slot that was found
abbrev pub on_modulator : Modulators → Answer ℕ → (ℕ → Modulator → ModulatorDone) → ModulatorDone
on_modulator t w f = on_found modulator_table t w (λ i s. f i s.modulator)

-- the modulator in slot i anew, and nothing else
abbrev pub changed_to : Modulators → ℕ → Modulator → ModulatorDone
changed_to t i m = changed modulator_table t i (slot_of m)

-- a modulator anew, unless the call has these faults
abbrev pub change_judged : Modulators → ℕ → Faults → Modulator → ModulatorDone
change_judged t i f m = decided (first_fault f) (changed_to t i m) (refused_call modulator_table t)

unfoldable pub remove_of : Modulators → ModulatorId → ModulatorDone
remove_of t id = on_modulator t (where_is modulator_table t id) (λ i m. freed modulator_table t i id.generation)

-- NEVER_ISSUED where the call is for the other kind: RULES, never-issued
abbrev pub on_tweener : Modulators → Modulator → (Tweener → ModulatorDone) → ModulatorDone
on_tweener t (OfTweener w) f = f w
on_tweener t (OfLfo l) f = refused_call modulator_table t NEVER_ISSUED

abbrev pub on_lfo : Modulators → Modulator → (Lfo → ModulatorDone) → ModulatorDone
on_lfo t (OfTweener w) f = refused_call modulator_table t NEVER_ISSUED
on_lfo t (OfLfo l) f = f l

unfoldable pub set_tweener_of : Modulators → ModulatorId → Float → Tween → ModulatorDone
set_tweener_of t id x w =
    on_modulator t (where_is modulator_table t id) (λ i m.
    on_tweener t m (λ old. change_judged t i (tweener_faults x w) (OfTweener (tweener_to_of x w old))))

-- RULES, lfo-set
unfoldable pub set_parameter_of : Modulators → ModulatorId → LfoParameter → Value Float → Tween → ModulatorDone
set_parameter_of t id k v w =
    on_modulator t (where_is modulator_table t id) (λ i m.
    on_lfo t m (λ old. change_judged t i (target_faults float_tweens v w) (OfLfo (parameter_by old k v w))))

unfoldable pub set_waveform_of : Modulators → ModulatorId → Waveform → ModulatorDone
set_waveform_of t id w =
    on_modulator t (where_is modulator_table t id) (λ i m.
    on_lfo t m (λ old. change_judged t i (wave_faults w) (OfLfo (with_wave_of w old))))

unfoldable pub set_phase_of : Modulators → ModulatorId → Float → ModulatorDone
set_phase_of t id x =
    on_modulator t (where_is modulator_table t id) (λ i m.
    on_lfo t m (λ old. change_judged t i (float_faults x) (OfLfo (with_phase_of x old))))

-- ---- reading

unfoldable pub modulator_value_of : Modulators → ModulatorId → Answer Float
modulator_value_of t id = read_found modulator_table t (where_is modulator_table t id) slot_value
