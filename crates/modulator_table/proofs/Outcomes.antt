-- Any two outcomes that a statement allows coincide, for each public function of the crate: `One` of the crate
-- `doubles` says it of the very clause that the check reads off the source, and `Same` of what the table is at exit
-- too. A clause says what the result is, or what it tells, and no two results tell the same. RULES, one-outcome.
-- Assumes nothing.
use Rattle.doubles.proofs.Outcomes.{One, Same, equal}
use Rattle.judge.proofs.Outcomes.{same_told, one_told}
use Rattle.ids.proofs.Outcomes.{same_done, same_added}
use Rattle.modulator_table.proofs.Slot.value.Reads as slot-value
use Rattle.modulator_table.proofs.Slot.value.Kinds as slot-value-kinds
use Rattle.modulator_table.proofs.Modulators.new.Reads as new
use Rattle.modulator_table.proofs.Modulators.new.Kinds as new-kinds
use Rattle.modulator_table.proofs.Modulators.add_tweener.Reads as add-tweener
use Rattle.modulator_table.proofs.Modulators.add_tweener.Kinds as add-tweener-kinds
use Rattle.modulator_table.proofs.Modulators.add_lfo.Reads as add-lfo
use Rattle.modulator_table.proofs.Modulators.add_lfo.Kinds as add-lfo-kinds
use Rattle.modulator_table.proofs.Modulators.remove.Reads as remove
use Rattle.modulator_table.proofs.Modulators.remove.Kinds as remove-kinds
use Rattle.modulator_table.proofs.Modulators.set_tweener.Reads as set-tweener
use Rattle.modulator_table.proofs.Modulators.set_tweener.Kinds as set-tweener-kinds
use Rattle.modulator_table.proofs.Modulators.set_parameter.Reads as set-parameter
use Rattle.modulator_table.proofs.Modulators.set_parameter.Kinds as set-parameter-kinds
use Rattle.modulator_table.proofs.Modulators.set_waveform.Reads as set-waveform
use Rattle.modulator_table.proofs.Modulators.set_waveform.Kinds as set-waveform-kinds
use Rattle.modulator_table.proofs.Modulators.set_phase.Reads as set-phase
use Rattle.modulator_table.proofs.Modulators.set_phase.Kinds as set-phase-kinds
use Rattle.modulator_table.proofs.Modulators.value.Reads as value
use Rattle.modulator_table.proofs.Modulators.value.Kinds as value-kinds

pub one_slot_value : One 1 slot-value-kinds.ps slot-value-kinds.r slot-value.Post
one_slot_value κs a x y s t = equal

pub one_new : One 0 new-kinds.ps new-kinds.r new.Post
one_new κs a x y s t = equal

pub one_add_tweener : Same 1 add-tweener-kinds.ps add-tweener-kinds.r add-tweener.Post (λ κs s. s.0.now)
one_add_tweener κs a x y s t = same_added x y s.0.now t.0.now

pub one_add_lfo : Same 1 add-lfo-kinds.ps add-lfo-kinds.r add-lfo.Post (λ κs s. s.0.now)
one_add_lfo κs a x y s t = same_added x y s.0.now t.0.now

pub one_remove : Same 1 remove-kinds.ps remove-kinds.r remove.Post (λ κs s. s.0.now)
one_remove κs a x y s t = same_done x y s.0.now t.0.now

pub one_set_tweener : Same 1 set-tweener-kinds.ps set-tweener-kinds.r set-tweener.Post (λ κs s. s.0.now)
one_set_tweener κs a x y s t = same_done x y s.0.now t.0.now

pub one_set_parameter : Same 1 set-parameter-kinds.ps set-parameter-kinds.r set-parameter.Post (λ κs s. s.0.now)
one_set_parameter κs a x y s t = same_done x y s.0.now t.0.now

pub one_set_waveform : Same 1 set-waveform-kinds.ps set-waveform-kinds.r set-waveform.Post (λ κs s. s.0.now)
one_set_waveform κs a x y s t = same_done x y s.0.now t.0.now

pub one_set_phase : Same 1 set-phase-kinds.ps set-phase-kinds.r set-phase.Post (λ κs s. s.0.now)
one_set_phase κs a x y s t = same_done x y s.0.now t.0.now

pub one_value : One 1 value-kinds.ps value-kinds.r value.Post
one_value κs a x y s t = one_told same_told x y
