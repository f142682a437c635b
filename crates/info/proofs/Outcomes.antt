-- Any two outcomes that a statement allows coincide, for each public function of the crate: `One` of the crate
-- `doubles`, and at every type that can be tweened `Each` of `values` and `EachSame` of `parameter`, say it of the very
-- clause that the check reads off the source. A clause says what the result and the parameter are, or what they tell,
-- and no two tell the same. RULES, one-outcome. Assumes nothing.
use Rattle.doubles.proofs.Outcomes.{One, equal}
use Rattle.judge.proofs.Outcomes.{same_told, one_told}
use Rattle.values.proofs.tweenable.Outcomes.{Each}
use Rattle.parameter.proofs.Outcomes.{EachSame, same_advance}
use Rattle.info.proofs.info.Info.when_to_start.Reads as when-to-start
use Rattle.info.proofs.info.Info.when_to_start.Kinds as when-to-start-kinds
use Rattle.info.proofs.info.Info.modulator_value.Reads as modulator-value
use Rattle.info.proofs.info.Info.modulator_value.Kinds as modulator-value-kinds
use Rattle.info.proofs.info.Info.start_due.Reads as start-due
use Rattle.info.proofs.info.Info.start_due.Kinds as start-due-kinds
use Rattle.info.proofs.info.Info.input.Reads as input
use Rattle.info.proofs.info.Info.input.Kinds as input-kinds
use Rattle.info.proofs.info.Info.try_when_to_start.Reads as try-when-to-start
use Rattle.info.proofs.info.Info.try_when_to_start.Kinds as try-when-to-start-kinds
use Rattle.info.proofs.info.Info.try_raw.Reads as try-raw
use Rattle.info.proofs.info.Info.try_raw.Kinds as try-raw-kinds
use Rattle.info.proofs.info.Info.try_update_start.Reads as try-update-start
use Rattle.info.proofs.info.Info.try_update_start.Kinds as try-update-start-kinds
use Rattle.info.proofs.info.Info.course_due.Reads as course-due
use Rattle.info.proofs.info.Info.course_due.Kinds as course-due-kinds
use Rattle.info.proofs.info.Info.due.Reads as due
use Rattle.info.proofs.info.Info.due.Kinds as due-kinds
use Rattle.info.proofs.info.Info.source.Reads as source
use Rattle.info.proofs.info.Info.source.Kinds as source-kinds
use Rattle.info.proofs.info.Info.sight.Reads as sight
use Rattle.info.proofs.info.Info.sight.Kinds as sight-kinds
use Rattle.info.proofs.info.Info.try_update.Reads as try-update
use Rattle.info.proofs.info.Info.try_update.Kinds as try-update-kinds

pub one_when_to_start : One 1 when-to-start-kinds.ps when-to-start-kinds.r when-to-start.Post
one_when_to_start κs a x y s t = equal

pub one_modulator_value : One 1 modulator-value-kinds.ps modulator-value-kinds.r modulator-value.Post
one_modulator_value κs a x y s t = equal

pub one_start_due : One 1 start-due-kinds.ps start-due-kinds.r start-due.Post
one_start_due κs a x y s t = equal

pub one_input : Each input-kinds.ps input-kinds.r input.Post
one_input T L C k d c e κs a x y s t = equal

pub one_try_when_to_start : One 1 try-when-to-start-kinds.ps try-when-to-start-kinds.r try-when-to-start.Post
one_try_when_to_start κs a x y s t = one_told same_told x y

pub one_try_raw : Each try-raw-kinds.ps try-raw-kinds.r try-raw.Post
one_try_raw T L C k d c e κs a x y s t = one_told same_told x y

pub one_try_update_start : One 1 try-update-start-kinds.ps try-update-start-kinds.r try-update-start.Post
one_try_update_start κs a x y s t = one_told same_told x y

pub one_course_due : One 1 course-due-kinds.ps course-due-kinds.r course-due.Post
one_course_due κs a x y s t = equal

pub one_due : Each due-kinds.ps due-kinds.r due.Post
one_due T L C k d c e κs a x y s t = equal

pub one_source : Each source-kinds.ps source-kinds.r source.Post
one_source T L C k d c e κs a x y s t = equal

pub one_sight : Each sight-kinds.ps sight-kinds.r sight.Post
one_sight T L C k d c e κs a x y s t = equal

pub one_try_update : EachSame try-update-kinds.ps try-update-kinds.r try-update.Post (λ T L C κs s. s.1.0.now)
one_try_update T L C k d c e κs a x y s t p q = same_advance x y s.1.0.now t.1.0.now (equal p q)
