-- Any two outcomes that a statement allows coincide, for each public function of the crate: `One` of the crate
-- `doubles` says it of the very clause that the check reads off the source. RULES, one-outcome. Assumes nothing.
use Rattle.doubles.proofs.Outcomes.{One, equal}
use Rattle.station.proofs.Station.new.Reads as new
use Rattle.station.proofs.Station.new.Kinds as new-kinds
use Rattle.station.proofs.Station.info.Reads as info
use Rattle.station.proofs.Station.info.Kinds as info-kinds

pub one_new : One 0 new-kinds.ps new-kinds.r new.Post
one_new κs a x y s t = equal

pub one_info : One 1 info-kinds.ps info-kinds.r info.Post
one_info κs a x y s t = equal
