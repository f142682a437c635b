-- Any two outcomes that a statement allows coincide, for each public function of the crate: `One` and `Same` of the
-- crate `doubles` say it of the very clause that the check reads off the source, `Same` of what a tweener or an LFO is
-- at exit too. RULES, one-outcome. Assumes nothing.
use mathlib.Core.Path.{refl}
use Rattle.doubles.proofs.Outcomes.{One, Same, equal}
use Rattle.modulator.proofs.lfo.LfoBuilder.faults.Reads as builder-faults
use Rattle.modulator.proofs.lfo.LfoBuilder.faults.Kinds as builder-faults-kinds
use Rattle.modulator.proofs.lfo.Lfo.new.Reads as new-lfo
use Rattle.modulator.proofs.lfo.Lfo.new.Kinds as new-lfo-kinds
use Rattle.modulator.proofs.lfo.Lfo.parameter.Reads as parameter
use Rattle.modulator.proofs.lfo.Lfo.parameter.Kinds as parameter-kinds
use Rattle.modulator.proofs.lfo.Lfo.put_parameter.Reads as put-parameter
use Rattle.modulator.proofs.lfo.Lfo.put_parameter.Kinds as put-parameter-kinds
use Rattle.modulator.proofs.lfo.Lfo.set_parameter.Reads as set-parameter
use Rattle.modulator.proofs.lfo.Lfo.set_parameter.Kinds as set-parameter-kinds
use Rattle.modulator.proofs.lfo.Lfo.set_waveform.Reads as set-waveform
use Rattle.modulator.proofs.lfo.Lfo.set_waveform.Kinds as set-waveform-kinds
use Rattle.modulator.proofs.lfo.Lfo.set_phase.Reads as set-phase
use Rattle.modulator.proofs.lfo.Lfo.set_phase.Kinds as set-phase-kinds
use Rattle.modulator.proofs.lfo.Lfo.update.Reads as update-lfo
use Rattle.modulator.proofs.lfo.Lfo.update.Kinds as update-lfo-kinds
use Rattle.modulator.proofs.tweener.tweener_faults.Reads as tweener-faults
use Rattle.modulator.proofs.tweener.tweener_faults.Kinds as tweener-faults-kinds
use Rattle.modulator.proofs.tweener.Tweener.new.Reads as new-tweener
use Rattle.modulator.proofs.tweener.Tweener.new.Kinds as new-tweener-kinds
use Rattle.modulator.proofs.tweener.Tweener.set.Reads as set
use Rattle.modulator.proofs.tweener.Tweener.set.Kinds as set-kinds
use Rattle.modulator.proofs.tweener.Tweener.update.Reads as update-tweener
use Rattle.modulator.proofs.tweener.Tweener.update.Kinds as update-tweener-kinds

pub one_builder_faults : One 0 builder-faults-kinds.ps builder-faults-kinds.r builder-faults.Post
one_builder_faults κs a x y s t = equal

pub one_new_lfo : One 0 new-lfo-kinds.ps new-lfo-kinds.r new-lfo.Post
one_new_lfo κs a x y s t = equal

pub one_parameter : One 1 parameter-kinds.ps parameter-kinds.r parameter.Post
one_parameter κs a x y s t = equal

pub one_put_parameter : Same 1 put-parameter-kinds.ps put-parameter-kinds.r put-parameter.Post (λ κs s. s.0.now)
one_put_parameter κs a x y s t p q = (refl, equal p q)

pub one_set_parameter : Same 1 set-parameter-kinds.ps set-parameter-kinds.r set-parameter.Post (λ κs s. s.0.now)
one_set_parameter κs a x y s t p q = (refl, equal p q)

pub one_set_waveform : Same 1 set-waveform-kinds.ps set-waveform-kinds.r set-waveform.Post (λ κs s. s.0.now)
one_set_waveform κs a x y s t p q = (refl, equal p q)

pub one_set_phase : Same 1 set-phase-kinds.ps set-phase-kinds.r set-phase.Post (λ κs s. s.0.now)
one_set_phase κs a x y s t p q = (refl, equal p q)

pub one_update_lfo : Same 1 update-lfo-kinds.ps update-lfo-kinds.r update-lfo.Post (λ κs s. s.0.now)
one_update_lfo κs a x y s t p q = (refl, equal p q)

pub one_tweener_faults : One 0 tweener-faults-kinds.ps tweener-faults-kinds.r tweener-faults.Post
one_tweener_faults κs a x y s t = equal

pub one_new_tweener : One 0 new-tweener-kinds.ps new-tweener-kinds.r new-tweener.Post
one_new_tweener κs a x y s t = equal

pub one_set : Same 1 set-kinds.ps set-kinds.r set.Post (λ κs s. s.0.now)
one_set κs a x y s t p q = (refl, equal p q)

pub one_update_tweener : Same 1 update-tweener-kinds.ps update-tweener-kinds.r update-tweener.Post (λ κs s. s.0.now)
one_update_tweener κs a x y s t p q = (refl, equal p q)
