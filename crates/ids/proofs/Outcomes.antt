-- Any two outcomes that a statement allows coincide, for each public function of the crate: `One` of the crate
-- `doubles` says it of the very clause that the check reads off the source. A clause says what the result is, or what
-- it tells, and no two results tell the same. RULES, one-outcome. Assumes nothing.
use mathlib.Core.Path.{◌≡◌, refl, ap}
use Prim.Native.Nat.{ℕ}
use Rattle.std.specs.Prelude.{Option, Some, None, Result}
use Rattle.doubles.proofs.Outcomes.{One, equal}
use Rattle.judge.specs.declared.Refusal.{Refusal}
use Rattle.judge.proofs.Outcomes.{same_told, same_number, one_told}
use Rattle.ids.specs.Keys.{told_room}
use Rattle.ids.specs.Tables.{Done, done, Added, added}
use Rattle.ids.specs.declared.Room.{Room}
use Rattle.ids.proofs.Key.taken.Reads as taken
use Rattle.ids.proofs.Key.taken.Kinds as taken-kinds
use Rattle.ids.proofs.Key.left.Reads as left
use Rattle.ids.proofs.Key.left.Kinds as left-kinds
use Rattle.ids.proofs.free.Reads as free
use Rattle.ids.proofs.free.Kinds as free-kinds
use Rattle.ids.proofs.find.Reads as find
use Rattle.ids.proofs.find.Kinds as find-kinds

same_fields : (i j g h : ℕ) → i ≡ j → g ≡ h → ◌≡◌ {A = Room} (record { slot = i; generation = g }) (record { slot = j; generation = h })
same_fields i j g h s t = rw (s, t)

-- two answers that tell the same are one
pub same_room : (x y : Option Room) → told_room x ≡ told_room y → x ≡ y
same_room (Some i) (Some j) e =
    let s : i.slot ≡ j.slot = cc in
    let g : i.generation ≡ j.generation = cc in
    ap Some (same_fields i.slot j.slot i.generation j.generation s g)
same_room (Some i) None e = cc
same_room None (Some j) e = cc
same_room None None e = refl

-- two calls on a table that tell the same are one, and leave the same table
pub same_done : {T : Type 0} {v : Done T} (x y : Result Unit Refusal) (t u : T) → done x t ≡ v → done y u ≡ v → (x ≡ y) × (t ≡ u)
same_done {T} x y t u p q =
    let e : done x t ≡ done y u = equal p q in
    (same_number x y (ap (λ (d : Done T). d.refused) e), ap (λ (d : Done T). d.table) e)

pub same_added : {T I : Type 0} {v : Added T I} (x y : Result I Refusal) (t u : T) → added x t ≡ v → added y u ≡ v → (x ≡ y) × (t ≡ u)
same_added {T} {I} x y t u p q =
    let e : added x t ≡ added y u = equal p q in
    (same_told x y (ap (λ (d : Added T I). d.answer) e), ap (λ (d : Added T I). d.table) e)

pub one_taken : One 0 taken-kinds.ps taken-kinds.r taken.Post
one_taken κs a x y s t = equal

pub one_left : One 0 left-kinds.ps left-kinds.r left.Post
one_left κs a x y s t = equal

pub one_free : One 1 free-kinds.ps free-kinds.r free.Post
one_free κs a x y s t = one_told same_room x y

pub one_find : One 1 find-kinds.ps find-kinds.r find.Post
one_find κs a x y s t = one_told same_told x y
