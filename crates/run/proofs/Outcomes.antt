-- Any two outcomes that a statement allows coincide: `Same` of the crate `doubles` says it of the very clause that the
-- check reads off the source, the result and what the station is at exit. The clauses say what the answer tells, what
-- the clocks report and what station is left. RULES, one-outcome. Assumes nothing.
use Prim.Native.Nat.{ℕ}
use mathlib.Core.Path.{◌≡◌}
use mathlib.Core.List.{List}
use Rattle.std.specs.Prelude.{Option, Result}
use Rattle.doubles.proofs.Outcomes.{Same, equal}
use Rattle.judge.specs.declared.Refusal.{Refusal}
use Rattle.commands.specs.declared.CallAnswer.{CallAnswer}
use Rattle.commands.proofs.Outcomes.{same_answer}
use Rattle.run.specs.declared.Ran.{Ran}
use Rattle.run.proofs.run.Reads as run
use Rattle.run.proofs.run.Kinds as run-kinds

same_ran : (m n : Result CallAnswer Refusal) (p q : List (Option ℕ)) → m ≡ n → p ≡ q → ◌≡◌ {A = Ran} (record { answer = m; reports = p }) (record { answer = n; reports = q })
same_ran m n p q a b = rw (a, b)

pub one_run : Same 1 run-kinds.ps run-kinds.r run.Post (λ κs s. s.0.now)
one_run κs a x y s t p q = (
  same_ran x.answer y.answer x.reports y.reports (same_answer x.answer y.answer (equal p.0 q.0)) (equal p.1 q.1),
  equal p.2 q.2,
)
