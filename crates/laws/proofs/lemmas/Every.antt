-- What holds of every entry of a table: it is kept where one entry is set to one of which it holds, and holds of each
-- entry that is read. Assumes nothing.
use Prim.Native.Nat.{ℕ, zero, suc}
use mathlib.Core.Path.{◌≡◌}
use mathlib.Core.Bool.{true}
use mathlib.Core.List.{List, [], ◌∷◌, map}
use lib.ListN.{replicate, set}
use Rattle.ids.proofs.Places.{found_case}
use Rattle.ids.specs.Keys.{lives_in}
use Rattle.ids.specs.Lists.{read_at}
use Rattle.ids.specs.Tables.{Table, refused_call, where_is, on_found}
use Rattle.judge.specs.Numbers.{NEVER_ISSUED}
use Rattle.laws.specs.SoundStation.{All}

module _ {A : Type 0} (P : A → Type 0) where
  pub all_set : (l : List A) (i : ℕ) (x : A) → P x → All P l → All P (set l i x)
  all_set [] i x p h = tt
  all_set (y ∷ l) zero x p h = (p, h.1)
  all_set (y ∷ l) (suc i) x p h = (h.0, all_set l i x p h.1)

  pub all_replicate : (n : ℕ) (x : A) → P x → All P (replicate n x)
  all_replicate zero x p = tt
  all_replicate (suc n) x p = (p, all_replicate n x p)

  -- by what holds of its elements, of each element's image
  pub all_map : {B : Type 0} (Q : B → Type 0) (f : A → B) → ((x : A) → P x → Q (f x)) → (l : List A) → All P l → All Q (map f l)
  all_map Q f k [] h = tt
  all_map Q f k (x ∷ l) h = (k x h.0, all_map Q f k l h.1)

  pub all_weaker : (Q : A → Type 0) → ((x : A) → P x → Q x) → (l : List A) → All P l → All Q l
  all_weaker Q k [] h = tt
  all_weaker Q k (x ∷ l) h = (k x h.0, all_weaker Q k l h.1)

  pub all_read : {B : Type 0} (Q : B → Type 0) (n : B) (f : A → B) → Q n → ((x : A) → P x → Q (f x)) → (l : List A) (i : ℕ) → All P l → Q (read_at n f l i)
  unfolding read_at
  all_read Q n f q k [] i h = q
  all_read Q n f q k (x ∷ l) zero h = k x h.0
  all_read Q n f q k (x ∷ l) (suc i) h = all_read Q n f q k l i h.1

-- a call by an id is refused, or is what it makes of the entry in its slot, of which that holds
pub found_all :
    {T E I D : Type 0} (k : Table T E I D) (t : T) (id : I) (P : D → Type 0) (Q : E → Type 0) (f : ℕ → E → D) → ((n : ℕ) → P (refused_call k t n))
    → (lives_in (k.keys_of t) (k.slot_in id) (k.generation_in id) ≡ true → (e : E) → Q e → P (f (k.slot_in id) e)) → All Q (k.entries_of t)
    → P (on_found k t (where_is k t id) f)
found_all k t id P Q f r h a =
    found_case (k.keys_of t) (k.slot_in id) (k.generation_in id) (λ w. P (on_found k t w f)) (λ n z l. r n) (λ l.
    all_read Q P (refused_call k t NEVER_ISSUED) (f (k.slot_in id)) (r NEVER_ISSUED) (h l) (k.entries_of t) (k.slot_in id) a)
