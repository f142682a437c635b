-- Any two outcomes that a statement allows coincide, the result and the `Out`: `One` and `Same` of the crate `doubles`
-- say it of the very clause that the check reads off the source (`Reads.Post`). RULES, one-outcome. Assumes nothing.
use mathlib.Core.Path.{◌≡◌, refl, sym, ◌∙◌}
use Rattle.doubles.proofs.Outcomes.{One, equal}
pub use Rattle.doubles.proofs.Outcomes.{Same}
use Rattle.digits.proofs.Out.new.Reads as new
use Rattle.digits.proofs.Out.new.Kinds as new-kinds
use Rattle.digits.proofs.Out.place.Reads as place
use Rattle.digits.proofs.Out.place.Kinds as place-kinds
use Rattle.digits.proofs.Out.put.Reads as put
use Rattle.digits.proofs.Out.put.Kinds as put-kinds
use Rattle.digits.proofs.Out.number.Reads as number
use Rattle.digits.proofs.Out.number.Kinds as number-kinds
use Rattle.digits.proofs.Out.flag.Reads as flag
use Rattle.digits.proofs.Out.flag.Kinds as flag-kinds
use Rattle.digits.proofs.Out.float.Reads as float
use Rattle.digits.proofs.Out.float.Kinds as float-kinds
use Rattle.digits.proofs.Out.counted.Reads as counted
use Rattle.digits.proofs.Out.counted.Kinds as counted-kinds
use Rattle.digits.proofs.Out.flagged.Reads as flagged
use Rattle.digits.proofs.Out.flagged.Kinds as flagged-kinds
use Rattle.digits.proofs.Out.named.Reads as named
use Rattle.digits.proofs.Out.named.Kinds as named-kinds
use Rattle.digits.proofs.Out.end.Reads as end
use Rattle.digits.proofs.Out.end.Kinds as end-kinds

-- what a function leaves of the `Out` that it is lent
pub same : {B C : Type 0} {v o u : B} {x : C} → o ≡ v → u ≡ v → (x ≡ x) × (o ≡ u)
same p q = (refl, p ∙ sym q)

pub one_new : One 1 new-kinds.ps new-kinds.r new.Post
one_new κs a x y s t = equal

pub one_place : One 2 place-kinds.ps place-kinds.r place.Post
one_place κs a x y s t = equal

pub one_put : Same 3 put-kinds.ps put-kinds.r put.Post (λ κs s. s.0.now)
one_put κs a x y s t = same

pub one_number : Same 2 number-kinds.ps number-kinds.r number.Post (λ κs s. s.0.now)
one_number κs a x y s t = same

pub one_flag : Same 2 flag-kinds.ps flag-kinds.r flag.Post (λ κs s. s.0.now)
one_flag κs a x y s t = same

pub one_float : Same 2 float-kinds.ps float-kinds.r float.Post (λ κs s. s.0.now)
one_float κs a x y s t = same

pub one_counted : Same 3 counted-kinds.ps counted-kinds.r counted.Post (λ κs s. s.0.now)
one_counted κs a x y s t = same

pub one_flagged : Same 3 flagged-kinds.ps flagged-kinds.r flagged.Post (λ κs s. s.0.now)
one_flagged κs a x y s t = same

pub one_named : Same 3 named-kinds.ps named-kinds.r named.Post (λ κs s. s.0.now)
one_named κs a x y s t = same

pub one_end : Same 2 end-kinds.ps end-kinds.r end.Post (λ κs s. s.0.now)
one_end κs a x y s t = same
