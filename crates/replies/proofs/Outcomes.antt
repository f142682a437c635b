-- Any two outcomes that a statement allows coincide, the result and the `Out`: `Same` of the crate `doubles` says it of
-- the very clause that the check reads off the source (`Reads.Post`). RULES, one-outcome. Assumes nothing.
use mathlib.Core.Path.{refl, sym, ◌∙◌}
use denote.RattleType.{RattleType}
use denote.Param.Laws.{Laws, IsCopy}
use mir.Syntax.{Dict}
use Rattle.std.specs.declared.clone.Clone
use Rattle.answers.specs.declared.Numbered
use Rattle.digits.proofs.Outcomes.{Same, same}
use Rattle.replies.proofs.ok.Reads as ok
use Rattle.replies.proofs.ok.Kinds as ok-kinds
use Rattle.replies.proofs.done.Reads as done
use Rattle.replies.proofs.done.Kinds as done-kinds
use Rattle.replies.proofs.answer.Reads as answer
use Rattle.replies.proofs.answer.Kinds as answer-kinds
use Rattle.replies.proofs.frame.Reads as frame
use Rattle.replies.proofs.frame.Kinds as frame-kinds
use Rattle.replies.proofs.show.Reads as show
use Rattle.replies.proofs.show.Kinds as show-kinds
use Rattle.replies.proofs.report.Reads as report
use Rattle.replies.proofs.report.Kinds as report-kinds

pub one_ok : Same 2 ok-kinds.ps ok-kinds.r ok.Post (λ κs s. s.0.now)
one_ok κs a x y s t = same

pub one_done : Same 2 done-kinds.ps done-kinds.r done.Post (λ κs s. s.0.now)
one_done κs a x y s t = same

-- of each kind of refusal that has a number, and so the report's
pub one_answer :
    (R : RattleType) (L : Laws R) (C : IsCopy R) (k : Numbered.Ghosts R.Denot) (d : Dict) (c : Clone.Ghosts R.Denot) (e : Dict)
    → Same 3 (answer-kinds.ps R L C) (answer-kinds.r R L C) (answer.Post R L C k d c e) (λ κs s. s.0.now)
one_answer R L C k d c e κs a x y s t = same

pub one_frame : Same 4 frame-kinds.ps frame-kinds.r frame.Post (λ κs s. s.0.now)
one_frame κs a x y s t = same

-- what `show` leaves in the text
pub one_show : Same 1 show-kinds.ps show-kinds.r show.Post (λ κs s. s.0.now)
one_show κs a x y s t e f = (refl, e ∙ sym f)

pub one_report :
    (R : RattleType) (L : Laws R) (C : IsCopy R) (k : Numbered.Ghosts R.Denot) (d : Dict) (c : Clone.Ghosts R.Denot) (e : Dict)
    → Same 4 (report-kinds.ps R L C) (report-kinds.r R L C) (report.Post R L C k d c e) (λ κs s. s.0.now)
one_report R L C k d c e κs a x y s t = same
