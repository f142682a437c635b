-- Any two outcomes that a statement allows coincide, for each public function of the module: `One` of the crate
-- `doubles` says it of the very clause that the check reads off the source. A clause says what the result is, or what
-- it tells, and no two results tell the same. RULES, one-outcome. Assumes nothing.
use Rattle.doubles.proofs.Outcomes.{One, equal}
use Rattle.judge.proofs.Outcomes.{same_told, one_told}
use Rattle.values.proofs.tweenable.Outcomes.{Each}
use Rattle.values.proofs.value.Mapping.map.Reads as map
use Rattle.values.proofs.value.Mapping.map.Kinds as map-kinds
use Rattle.values.proofs.value.Mapping.faults.Reads as mapping-faults
use Rattle.values.proofs.value.Mapping.faults.Kinds as mapping-faults-kinds
use Rattle.values.proofs.value.Mapping.try_map.Reads as try-map
use Rattle.values.proofs.value.Mapping.try_map.Kinds as try-map-kinds
use Rattle.values.proofs.value.Value.raw.Reads as raw
use Rattle.values.proofs.value.Value.raw.Kinds as raw-kinds
use Rattle.values.proofs.value.Value.faults.Reads as value-faults
use Rattle.values.proofs.value.Value.faults.Kinds as value-faults-kinds
use Rattle.values.proofs.value.try_map_output.Reads as try-map-output
use Rattle.values.proofs.value.try_map_output.Kinds as try-map-output-kinds
use Rattle.values.proofs.value.try_value_output.Reads as try-value-output
use Rattle.values.proofs.value.try_value_output.Kinds as try-value-output-kinds

pub one_map : Each map-kinds.ps map-kinds.r map.Post
one_map T L C k d c e κs a x y s t = equal

pub one_mapping_faults : Each mapping-faults-kinds.ps mapping-faults-kinds.r mapping-faults.Post
one_mapping_faults T L C k d c e κs a x y s t = equal

pub one_try_map : Each try-map-kinds.ps try-map-kinds.r try-map.Post
one_try_map T L C k d c e κs a x y s t = one_told same_told x y

pub one_raw : Each raw-kinds.ps raw-kinds.r raw.Post
one_raw T L C k d c e κs a x y s t = equal

pub one_value_faults : Each value-faults-kinds.ps value-faults-kinds.r value-faults.Post
one_value_faults T L C k d c e κs a x y s t = equal

pub one_try_map_output : One 0 try-map-output-kinds.ps try-map-output-kinds.r try-map-output.Post
one_try_map_output κs a x y s t = one_told same_told x y

pub one_try_value_output : One 0 try-value-output-kinds.ps try-value-output-kinds.r try-value-output.Post
one_try_value_output κs a x y s t = one_told same_told x y
