-- Any two outcomes that a statement allows coincide, for each public function of the module: `One` of the crate
-- `doubles` says it of the very clause that the check reads off the source. A clause says what the result is, or what
-- it tells, and no two results tell the same. RULES, one-outcome. Assumes nothing.
use Rattle.doubles.proofs.Outcomes.{One, equal}
use Rattle.judge.proofs.Outcomes.{same_told, one_told}
use Rattle.times.proofs.start_time.start_faults.Reads as start-faults
use Rattle.times.proofs.start_time.start_faults.Kinds as start-faults-kinds
use Rattle.times.proofs.start_time.shorter.Reads as shorter
use Rattle.times.proofs.start_time.shorter.Kinds as shorter-kinds
use Rattle.times.proofs.start_time.update.Reads as update
use Rattle.times.proofs.start_time.update.Kinds as update-kinds
use Rattle.times.proofs.start_time.try_update.Reads as try-update
use Rattle.times.proofs.start_time.try_update.Kinds as try-update-kinds

pub one_start_faults : One 0 start-faults-kinds.ps start-faults-kinds.r start-faults.Post
one_start_faults κs a x y s t = equal

pub one_shorter : One 0 shorter-kinds.ps shorter-kinds.r shorter.Post
one_shorter κs a x y s t = equal

pub one_update : One 0 update-kinds.ps update-kinds.r update.Post
one_update κs a x y s t = equal

pub one_try_update : One 0 try-update-kinds.ps try-update-kinds.r try-update.Post
one_try_update κs a x y s t = one_told same_told x y
