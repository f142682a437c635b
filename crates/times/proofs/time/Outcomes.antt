-- Any two outcomes that a statement allows coincide, for each public function of the module: `One` of the crate
-- `doubles` says it of the very clause that the check reads off the source. A clause says what the result is, or what
-- it tells, and no two results tell the same. RULES, one-outcome. Assumes nothing.
use Rattle.doubles.proofs.Outcomes.{One, equal}
use Rattle.judge.proofs.Outcomes.{same_told, one_told}
use Rattle.times.proofs.time.time_at.Reads as time-at
use Rattle.times.proofs.time.time_at.Kinds as time-at-kinds
use Rattle.times.proofs.time.clock_time_faults.Reads as clock-time-faults
use Rattle.times.proofs.time.clock_time_faults.Kinds as clock-time-faults-kinds
use Rattle.times.proofs.time.from_ticks_u64.Reads as from-ticks-u64
use Rattle.times.proofs.time.from_ticks_u64.Kinds as from-ticks-u64-kinds
use Rattle.times.proofs.time.try_from_ticks_f64.Reads as try-from-ticks-f64
use Rattle.times.proofs.time.try_from_ticks_f64.Kinds as try-from-ticks-f64-kinds
use Rattle.times.proofs.time.try_add_u64.Reads as try-add-u64
use Rattle.times.proofs.time.try_add_u64.Kinds as try-add-u64-kinds
use Rattle.times.proofs.time.try_sub_u64.Reads as try-sub-u64
use Rattle.times.proofs.time.try_sub_u64.Kinds as try-sub-u64-kinds
use Rattle.times.proofs.time.try_add_f64.Reads as try-add-f64
use Rattle.times.proofs.time.try_add_f64.Kinds as try-add-f64-kinds
use Rattle.times.proofs.time.try_sub_f64.Reads as try-sub-f64
use Rattle.times.proofs.time.try_sub_f64.Kinds as try-sub-f64-kinds
use Rattle.times.proofs.time.partial_cmp.Reads as partial-cmp
use Rattle.times.proofs.time.partial_cmp.Kinds as partial-cmp-kinds
use Rattle.times.proofs.time.try_partial_cmp.Reads as try-partial-cmp
use Rattle.times.proofs.time.try_partial_cmp.Kinds as try-partial-cmp-kinds

pub one_time_at : One 0 time-at-kinds.ps time-at-kinds.r time-at.Post
one_time_at κs a x y s t = equal

pub one_clock_time_faults : One 0 clock-time-faults-kinds.ps clock-time-faults-kinds.r clock-time-faults.Post
one_clock_time_faults κs a x y s t = equal

pub one_from_ticks_u64 : One 0 from-ticks-u64-kinds.ps from-ticks-u64-kinds.r from-ticks-u64.Post
one_from_ticks_u64 κs a x y s t = equal

pub one_try_from_ticks_f64 : One 0 try-from-ticks-f64-kinds.ps try-from-ticks-f64-kinds.r try-from-ticks-f64.Post
one_try_from_ticks_f64 κs a x y s t = one_told same_told x y

pub one_try_add_u64 : One 0 try-add-u64-kinds.ps try-add-u64-kinds.r try-add-u64.Post
one_try_add_u64 κs a x y s t = one_told same_told x y

pub one_try_sub_u64 : One 0 try-sub-u64-kinds.ps try-sub-u64-kinds.r try-sub-u64.Post
one_try_sub_u64 κs a x y s t = one_told same_told x y

pub one_try_add_f64 : One 0 try-add-f64-kinds.ps try-add-f64-kinds.r try-add-f64.Post
one_try_add_f64 κs a x y s t = one_told same_told x y

pub one_try_sub_f64 : One 0 try-sub-f64-kinds.ps try-sub-f64-kinds.r try-sub-f64.Post
one_try_sub_f64 κs a x y s t = one_told same_told x y

pub one_partial_cmp : One 0 partial-cmp-kinds.ps partial-cmp-kinds.r partial-cmp.Post
one_partial_cmp κs a x y s t = equal

pub one_try_partial_cmp : One 0 try-partial-cmp-kinds.ps try-partial-cmp-kinds.r try-partial-cmp.Post
one_try_partial_cmp κs a x y s t = one_told same_told x y
