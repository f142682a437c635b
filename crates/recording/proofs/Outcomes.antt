-- Any two outcomes that a statement allows coincide: `One` of the crate `doubles` says it of the very clause that the
-- check reads off the source. RULES, one-outcome. Assumes nothing.
use Rattle.doubles.proofs.Outcomes.{One, equal}
use Rattle.recording.proofs.record_at.Reads as record-at
use Rattle.recording.proofs.record_at.Kinds as record-at-kinds

pub one_record_at : One 1 record-at-kinds.ps record-at-kinds.r record-at.Post
one_record_at κs a x y s t = equal
