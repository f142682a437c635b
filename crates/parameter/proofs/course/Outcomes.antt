-- Any two outcomes that a statement allows coincide, for each public function of the module: `One` of the crate
-- `doubles` says it of the very clause that the check reads off the source. A clause says what the result is. RULES,
-- one-outcome. Assumes nothing.
use Rattle.doubles.proofs.Outcomes.{One, equal}
use Rattle.parameter.proofs.course.Course.begin.Reads as begin
use Rattle.parameter.proofs.course.Course.begin.Kinds as begin-kinds
use Rattle.parameter.proofs.course.Course.step.Reads as step
use Rattle.parameter.proofs.course.Course.step.Kinds as step-kinds
use Rattle.parameter.proofs.course.Course.amount.Reads as amount
use Rattle.parameter.proofs.course.Course.amount.Kinds as amount-kinds
use Rattle.parameter.proofs.course.started.Reads as started
use Rattle.parameter.proofs.course.started.Kinds as started-kinds

pub one_begin : One 0 begin-kinds.ps begin-kinds.r begin.Post
one_begin κs a x y s t = equal

pub one_step : One 0 step-kinds.ps step-kinds.r step.Post
one_step κs a x y s t = equal

pub one_amount : One 0 amount-kinds.ps amount-kinds.r amount.Post
one_amount κs a x y s t = equal

pub one_started : One 0 started-kinds.ps started-kinds.r started.Post
one_started κs a x y s t = equal
