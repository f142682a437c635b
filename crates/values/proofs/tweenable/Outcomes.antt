-- Any two outcomes that a statement allows coincide, for each public function of the module: `One` of the crate
-- `doubles` says it of the very clause that the check reads off the source. A clause says what the result is, or what
-- it tells, and no two results tell the same. RULES, one-outcome. Assumes nothing.
use Prim.Native.Nat.{ℕ}
use mathlib.Core.List.{List}
use borrow.Fn.Kinds.{ParamKind, ResultKind, Out}
use denote.RattleType.{RattleType}
use denote.Param.Laws.{Laws, IsCopy}
use mir.Syntax.{Dict}
use Rattle.std.specs.declared.clone.Clone
use Rattle.doubles.proofs.Outcomes.{One, equal}
use Rattle.judge.proofs.Outcomes.{same_told, one_told}
use Rattle.values.specs.declared.tweenable.Tweenable
use Rattle.values.proofs.tweenable.F64Tweenable.interpolate.Reads as interpolate
use Rattle.values.proofs.tweenable.F64Tweenable.interpolate.Kinds as interpolate-kinds
use Rattle.values.proofs.tweenable.F64Tweenable.faults.Reads as faults
use Rattle.values.proofs.tweenable.F64Tweenable.faults.Kinds as faults-kinds
use Rattle.values.proofs.tweenable.F64Tweenable.end_faults.Reads as end-faults
use Rattle.values.proofs.tweenable.F64Tweenable.end_faults.Kinds as end-faults-kinds
use Rattle.values.proofs.tweenable.F64Tweenable.read_faults.Reads as read-faults
use Rattle.values.proofs.tweenable.F64Tweenable.read_faults.Kinds as read-faults-kinds
use Rattle.values.proofs.tweenable.try_interpolate.Reads as try-interpolate
use Rattle.values.proofs.tweenable.try_interpolate.Kinds as try-interpolate-kinds

-- `One`, of a function for each type that can be tweened
abbrev pub Each :
    {n : ℕ} (ps : (T : RattleType) → Laws T → IsCopy T → List (ParamKind n)) (r : (T : RattleType) → Laws T → IsCopy T → ResultKind n)
    → ((T : RattleType) (L : Laws T) (C : IsCopy T) → Tweenable.Ghosts T.Denot → Dict → Clone.Ghosts T.Denot → Dict → Out n (ps T L C) (r T L C)) → Type 2
Each {n} ps r Post =
    (T : RattleType) (L : Laws T) (C : IsCopy T) (k : Tweenable.Ghosts T.Denot) (d : Dict) (c : Clone.Ghosts T.Denot) (e : Dict)
    → One n (ps T L C) (r T L C) (Post T L C k d c e)

pub one_interpolate : One 0 interpolate-kinds.ps interpolate-kinds.r interpolate.Post
one_interpolate κs a x y s t = equal

pub one_faults : One 0 faults-kinds.ps faults-kinds.r faults.Post
one_faults κs a x y s t = equal

pub one_end_faults : One 0 end-faults-kinds.ps end-faults-kinds.r end-faults.Post
one_end_faults κs a x y s t = equal

pub one_read_faults : One 0 read-faults-kinds.ps read-faults-kinds.r read-faults.Post
one_read_faults κs a x y s t = equal

pub one_try_interpolate : Each try-interpolate-kinds.ps try-interpolate-kinds.r try-interpolate.Post
one_try_interpolate T L C k d c e κs a x y s t = one_told same_told x y
