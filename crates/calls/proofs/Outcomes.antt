-- Any two outcomes that a statement allows coincide, the result and the buffer: `Same` of the crate `digits` says it of
-- the very clause that the check reads off the source (`Reads.Post`). RULES, one-outcome. Assumes nothing.
use mathlib.Core.Path.{◌≡◌, sym, ap, ◌∙◌}
use denote.RattleType.{RattleType}
use denote.Param.Laws.{Laws, IsCopy}
use mir.Syntax.{Dict}
use Rattle.std.specs.Prelude.{Option}
use Rattle.std.specs.declared.clone.Clone
use Rattle.answers.specs.declared.Shown
use Rattle.digits.proofs.Outcomes.{Same}
use Rattle.grammar.specs.declared.Spelled
use Rattle.values.specs.declared.tweenable.Tweenable
use Rattle.digits.specs.declared.Out.{Out}
use Rattle.calls.specs.Calls.{Answered}
use Rattle.calls.proofs.floats.call.Reads as floats
use Rattle.calls.proofs.floats.call.Kinds as floats-kinds
use Rattle.calls.proofs.curves.call.Reads as curves
use Rattle.calls.proofs.curves.call.Kinds as curves-kinds
use Rattle.calls.proofs.lerps.call.Reads as lerps
use Rattle.calls.proofs.lerps.call.Kinds as lerps-kinds
use Rattle.calls.proofs.speeds.call.Reads as speeds
use Rattle.calls.proofs.speeds.call.Kinds as speeds-kinds

abbrev of : Option (Unit {0}) → Out → Answered
of told out = record { told = told; out = out }

same : {v : Answered} {x y : Option (Unit {0})} {o u : Out} → of x o ≡ v → of y u ≡ v → (x ≡ y) × (o ≡ u)
same p q = (ap (λ (a : Answered). a.told) (p ∙ sym q), ap (λ (a : Answered). a.out) (p ∙ sym q))

pub one_floats : Same 3 floats-kinds.ps floats-kinds.r floats.Post (λ κs s. s.1.1.0.now)
one_floats κs a x y s t = same

pub one_curves : Same 3 curves-kinds.ps curves-kinds.r curves.Post (λ κs s. s.1.1.0.now)
one_curves κs a x y s t = same

pub one_speeds : Same 3 speeds-kinds.ps speeds-kinds.r speeds.Post (λ κs s. s.1.1.0.now)
one_speeds κs a x y s t = same

-- of each kind of value that can be tweened, read and written
pub one_lerps :
    (T : RattleType) (L : Laws T) (C : IsCopy T) (r : Spelled.Ghosts T.Denot) (d : Dict) (k : Tweenable.Ghosts T.Denot) (e : Dict)
    (c : Clone.Ghosts T.Denot) (f : Dict) (w : Shown.Ghosts T.Denot) (g : Dict)
    → Same 4 (lerps-kinds.ps T L C) (lerps-kinds.r T L C) (lerps.Post T L C r d k e c f w g) (λ κs s. s.1.0.now)
one_lerps T L C r d k e c f w g κs a x y s t = same
