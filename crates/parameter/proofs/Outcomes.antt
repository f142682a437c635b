-- Any two outcomes that a statement allows coincide, for each public function of the crate's root, whatever is tweened:
-- the result, and the parameter that a call leaves. `Each`, and `EachSame` here, say it of the very clause that the
-- check reads off the source. A clause says what the result is, or what it tells, and no two results tell the same.
-- RULES, one-outcome. Assumes nothing.
use Prim.Native.Nat.{ℕ}
use mathlib.Core.Path.{◌≡◌, refl, sym, ap, ◌∙◌}
use mathlib.Core.List.{List}
use mathlib.Core.Bool.{Bool}
use contract.Lifetimes.{Lfts}
use denote.Triple.Clauses.{AtExit}
use denote.RattleType.{RattleType}
use denote.Param.Laws.{Laws, IsCopy}
use mir.Syntax.{Dict}
use borrow.Fn.Kinds.{ParamKind, ResultKind, Out, ended_of}
use Rattle.std.specs.declared.clone.Clone
use Rattle.std.specs.Prelude.{Result, Ok, Err}
use Rattle.doubles.proofs.Outcomes.{Same, equal}
use Rattle.judge.specs.declared.Refusal.{Refusal}
use Rattle.judge.proofs.Judged.{never_ok}
use Rattle.judge.proofs.Outcomes.{same_refusal, same_number, same_told, one_told}
use Rattle.values.specs.declared.tweenable.Tweenable
use Rattle.values.proofs.tweenable.Outcomes.{Each}
use Rattle.parameter.specs.Parameters.{Set, Updated, Advanced, set_told, updated, advanced_told}
use Rattle.parameter.specs.declared.Parameter.{Parameter}
use Rattle.parameter.proofs.Parameter.new.Reads as new
use Rattle.parameter.proofs.Parameter.new.Kinds as new-kinds
use Rattle.parameter.proofs.Parameter.try_new.Reads as try-new
use Rattle.parameter.proofs.Parameter.try_new.Kinds as try-new-kinds
use Rattle.parameter.proofs.target_faults.Reads as target-faults
use Rattle.parameter.proofs.target_faults.Kinds as target-faults-kinds
use Rattle.parameter.proofs.Parameter.set.Reads as set
use Rattle.parameter.proofs.Parameter.set.Kinds as set-kinds
use Rattle.parameter.proofs.Parameter.try_set.Reads as try-set
use Rattle.parameter.proofs.Parameter.try_set.Kinds as try-set-kinds
use Rattle.parameter.proofs.Parameter.update.Reads as update
use Rattle.parameter.proofs.Parameter.update.Kinds as update-kinds
use Rattle.parameter.proofs.Parameter.try_update.Reads as try-update
use Rattle.parameter.proofs.Parameter.try_update.Kinds as try-update-kinds

-- `Same`, of a method for each type that can be tweened, with what `out` reads of the parameter at exit
abbrev pub EachSame :
    {n : ℕ} (ps : (T : RattleType) → Laws T → IsCopy T → List (ParamKind n)) (r : (T : RattleType) → Laws T → IsCopy T → ResultKind n)
    → ((T : RattleType) (L : Laws T) (C : IsCopy T) → Tweenable.Ghosts T.Denot → Dict → Clone.Ghosts T.Denot → Dict → Out n (ps T L C) (r T L C))
    → ((T : RattleType) (L : Laws T) (C : IsCopy T) (κs : Lfts n) → AtExit (ended_of n (ps T L C) (r T L C)) κs → Parameter T.Denot) → Type 2
EachSame {n} ps r Post out =
    (T : RattleType) (L : Laws T) (C : IsCopy T) (k : Tweenable.Ghosts T.Denot) (d : Dict) (c : Clone.Ghosts T.Denot) (e : Dict)
    → Same n (ps T L C) (r T L C) (Post T L C k d c e) (out T L C)

-- what a call says and leaves is told by one record alone
module _ {T : Type 0} where
  pub same_set : (x y : Result Unit Refusal) {p q : Parameter T} {v : Set T} → set_told x p ≡ v → set_told y q ≡ v → (x ≡ y) × (p ≡ q)
  same_set x y e f =
      (same_number x y (ap (λ (s : Set T). s.refused) (e ∙ sym f)), ap (λ (s : Set T). s.parameter) (e ∙ sym f))

  pub same_update : {x y : Bool} {p q : Parameter T} {v : Updated T} → updated x p ≡ v → updated y q ≡ v → (x ≡ y) × (p ≡ q)
  same_update e f = (ap (λ (s : Updated T). s.finished) (e ∙ sym f), ap (λ (s : Updated T). s.parameter) (e ∙ sym f))

  pub same_advance : (x y : Result Bool Refusal) (p q : Parameter T) → advanced_told x p ≡ advanced_told y q → (x ≡ y) × (p ≡ q)
  same_advance (Ok b) (Ok c) p q e = (ap (λ (s : Advanced T). Ok s.finished) e, ap (λ (s : Advanced T). s.parameter) e)
  same_advance (Ok b) (Err r) p q e = absurd (never_ok r (sym (ap (λ (s : Advanced T). s.refused) e)))
  same_advance (Err r) (Ok b) p q e = absurd (never_ok r (ap (λ (s : Advanced T). s.refused) e))
  same_advance (Err r) (Err s) p q e =
      (ap (λ (i : Refusal). Err i) (same_refusal r s (ap (λ (s : Advanced T). s.refused) e)), ap (λ (s : Advanced T). s.parameter) e)

pub one_new : Each new-kinds.ps new-kinds.r new.Post
one_new T L C k d c e κs a x y s t = equal

pub one_try_new : Each try-new-kinds.ps try-new-kinds.r try-new.Post
one_try_new T L C k d c e κs a x y s t = one_told same_told x y

pub one_target_faults : Each target-faults-kinds.ps target-faults-kinds.r target-faults.Post
one_target_faults T L C k d c e κs a x y s t = equal

pub one_set : EachSame set-kinds.ps set-kinds.r set.Post (λ T L C κs s. s.0.now)
one_set T L C k d c e κs a x y s t p q = (refl, equal p q)

pub one_try_set : EachSame try-set-kinds.ps try-set-kinds.r try-set.Post (λ T L C κs s. s.0.now)
one_try_set T L C k d c e κs a x y s t = same_set x y

pub one_update : EachSame update-kinds.ps update-kinds.r update.Post (λ T L C κs s. s.0.now)
one_update T L C k d c e κs a x y s t = same_update

pub one_try_update : EachSame try-update-kinds.ps try-update-kinds.r try-update.Post (λ T L C κs s. s.0.now)
one_try_update T L C k d c e κs a x y s t p q = same_advance x y _ _ (equal p q)
