-- Any two outcomes that a statement allows coincide, for each public function of the module: `One` of the crate
-- `doubles` says it of the very clause that the check reads off the source. A clause says what the result is, or what
-- it tells, and no two results tell the same. RULES, one-outcome. Assumes nothing.
use Rattle.doubles.proofs.Outcomes.{One, equal}
use Rattle.judge.proofs.Outcomes.{same_told, one_told}
use Rattle.times.proofs.tween.power.Reads as power
use Rattle.times.proofs.tween.power.Kinds as power-kinds
use Rattle.times.proofs.tween.apply.Reads as apply
use Rattle.times.proofs.tween.apply.Kinds as apply-kinds
use Rattle.times.proofs.tween.ease_faults.Reads as ease-faults
use Rattle.times.proofs.tween.ease_faults.Kinds as ease-faults-kinds
use Rattle.times.proofs.tween.tween_faults.Reads as tween-faults
use Rattle.times.proofs.tween.tween_faults.Kinds as tween-faults-kinds
use Rattle.times.proofs.tween.try_apply.Reads as try-apply
use Rattle.times.proofs.tween.try_apply.Kinds as try-apply-kinds
use Rattle.times.proofs.tween.tween_value.Reads as tween-value
use Rattle.times.proofs.tween.tween_value.Kinds as tween-value-kinds
use Rattle.times.proofs.tween.default_tween.Reads as default-tween
use Rattle.times.proofs.tween.default_tween.Kinds as default-tween-kinds

pub one_power : One 0 power-kinds.ps power-kinds.r power.Post
one_power κs a x y s t = equal

pub one_apply : One 0 apply-kinds.ps apply-kinds.r apply.Post
one_apply κs a x y s t = equal

pub one_ease_faults : One 0 ease-faults-kinds.ps ease-faults-kinds.r ease-faults.Post
one_ease_faults κs a x y s t = equal

pub one_tween_faults : One 0 tween-faults-kinds.ps tween-faults-kinds.r tween-faults.Post
one_tween_faults κs a x y s t = equal

pub one_try_apply : One 0 try-apply-kinds.ps try-apply-kinds.r try-apply.Post
one_try_apply κs a x y s t = one_told same_told x y

pub one_tween_value : One 0 tween-value-kinds.ps tween-value-kinds.r tween-value.Post
one_tween_value κs a x y s t = equal

pub one_default_tween : One 0 default-tween-kinds.ps default-tween-kinds.r default-tween.Post
one_default_tween κs a x y s t = equal
