-- Any two outcomes that a statement allows coincide: `One` of the crate `doubles` says it of the very clause that the
-- check reads off the source. RULES, one-outcome. Assumes nothing.
use Rattle.doubles.proofs.Outcomes.{One, equal}
use Rattle.record.proofs.judge.Reads as judge
use Rattle.record.proofs.judge.Kinds as judge-kinds

pub one_judge : One 1 judge-kinds.ps judge-kinds.r judge.Post
one_judge κs a x y s t = equal
