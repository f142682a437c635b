-- Any two outcomes that a statement allows coincide, for each public function of the module: `One` of the crate
-- `doubles` says it of the very clause that the check reads off the source. A clause says what the result is, or what
-- it tells, and no two results tell the same. RULES, one-outcome. Assumes nothing.
use Rattle.doubles.proofs.Outcomes.{One, equal}
use Rattle.judge.proofs.Outcomes.{same_told, one_told}
use Rattle.times.proofs.duration.nanos.Reads as nanos
use Rattle.times.proofs.duration.nanos.Kinds as nanos-kinds
use Rattle.times.proofs.duration.as_secs_f64.Reads as as_secs_f64
use Rattle.times.proofs.duration.as_secs_f64.Kinds as as-secs-f64-kinds
use Rattle.times.proofs.duration.try_as_secs_f64.Reads as try-as-secs-f64
use Rattle.times.proofs.duration.try_as_secs_f64.Kinds as try-as-secs-f64-kinds

pub one_nanos : One 0 nanos-kinds.ps nanos-kinds.r nanos.Post
one_nanos κs a x y s t = equal

pub one_as_secs_f64 : One 0 as-secs-f64-kinds.ps as-secs-f64-kinds.r as_secs_f64.Post
one_as_secs_f64 κs a x y s t = equal

pub one_try_as_secs_f64 : One 0 try-as-secs-f64-kinds.ps try-as-secs-f64-kinds.r try-as-secs-f64.Post
one_try_as_secs_f64 κs a x y s t = one_told same_told x y
