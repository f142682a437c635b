-- Any two outcomes that a statement allows coincide, the answer and the buffer: `Same` of the crate `doubles` says it
-- of the very clause that the check reads off the source (`Reads.Post`). No two answers tell the same. RULES,
-- one-outcome. Assumes nothing.
use Prim.Native.Nat.{ℕ}
use mathlib.Core.Path.{◌≡◌, sym, ap, ◌∙◌}
use mathlib.Core.List.{List}
use Rattle.doubles.proofs.Outcomes.{Same}
use Rattle.std.specs.Prelude.{Result}
use Rattle.judge.proofs.Outcomes.{same_told}
use Rattle.judge.specs.declared.Refusal.{Refusal}
use Rattle.report.specs.Reports.{Outcome, reported}
use Rattle.report.proofs.report.Reads as report
use Rattle.report.proofs.report.Kinds as report-kinds
use Rattle.report.proofs.reports.Reads as reports
use Rattle.report.proofs.reports.Kinds as reports-kinds

same : {v : Outcome} {o u : List ℕ} (x y : Result ℕ Refusal) → reported x o ≡ v → reported y u ≡ v → (x ≡ y) × (o ≡ u)
same x y p q = (same_told x y (ap (λ (v : Outcome). v.answer) (p ∙ sym q)), ap (λ (v : Outcome). v.out) (p ∙ sym q))

pub one_report : Same 2 report-kinds.ps report-kinds.r report.Post (λ κs s. s.1.1.0.now)
one_report κs a x y s t = same x y

pub one_reports : Same 2 reports-kinds.ps reports-kinds.r reports.Post (λ κs s. s.1.0.now)
one_reports κs a x y s t = same x y
