-- An array that a loop fills with what a function shows of another array's elements is that array's map in the end; and
-- an element set anew is shown anew. Assumes nothing.
use Prim.Native.Nat.{ℕ, zero, suc, ◌+◌, ◌<◌, ◌≤◌}
use native.Mathlib.Numerals.{add-one}
use native.Mathlib.Omega.{arith}
use mathlib.Core.Path.{◌≡◌, refl, sym, ◌∙◌, ap}
use mathlib.Core.List.{List, [], ◌∷◌, map, map-append}
use lib.ListN.{length, get_or, set, take, length-set}
use lib.Seq.{take_all, take-suc, take-suc-set}

pub map_set : {A B : Type 0} (f : A → B) (l : List A) (i : ℕ) (x : A) → map f (set l i x) ≡ set (map f l) i (f x)
map_set f [] i x = refl
map_set f (y ∷ l) zero x = refl
map_set {B = B} f (y ∷ l) (suc i) x = ap (λ (r : List B). f y ∷ r) (map_set f l i x)

-- the first i of m's elements show those of l
pub record Filled {A B : Type 0} (f : A → B) (l : List A) (m : List B) (i : ℕ) : Type 0 where
  pub upto : i ≤ 16
  pub from : length l ≡ 16
  pub to : length m ≡ 16
  pub same : take i m ≡ map f (take i l)

module _ {A B : Type 0} (f : A → B) (l : List A) (m : List B) where
  pub fill_none : length l ≡ 16 → length m ≡ 16 → Filled f l m 0
  fill_none n k = record { upto = omega arith; from = n; to = k; same = refl }

  -- one element more
  pub fill_more : (i : ℕ) (d : A) (x : B) → i < 16 → x ≡ f (get_or l i d) → Filled f l m i → Filled f l (set m i x) (i + 1)
  fill_more i d x h e p =
      let hl : i < length l = omega arith in
      let hm : i < length m = omega arith in
      record {
        upto = omega arith;
        from = p.from;
        to = length-set m i x ∙ p.to;
        same = rw (add-one i, take-suc-set m i x hm, p.same, take-suc l i d hl, map-append f (take i l) (get_or l i d ∷ []), e);
      }

  pub fill_all : (i : ℕ) → 16 ≤ i → Filled f l m i → m ≡ map f l
  fill_all i h p = sym (take_all i m (omega arith)) ∙ p.same ∙ ap (map f) (take_all i l (omega arith))
