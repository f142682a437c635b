-- The rows of one first letter are enough for a word that begins with it: those whose names begin with another byte say
-- nothing of the word. Assumes nothing.
use Prim.Native.Nat.{ℕ}
use mathlib.Core.Path.{◌≡◌, refl, sym, ap, ◌∙◌}
use mathlib.Core.Bool.{Bool, true, false, not, ◌&&◌}
use mathlib.Core.List.{List, [], ◌∷◌, ◌++◌}
use lib.Dec.{eqb, leb}
use lib.ListN.{take, drop}
use Rattle.std.specs.Prelude.{Some, None, map, slice_get, slice_range}
use Rattle.std.proofs.lemmas.Bool.{leb-true}
use Rattle.std.proofs.lemmas.List.{take-append-drop, take-map, drop-map}
use Rattle.std.proofs.lemmas.List.Folds.{drop_split}
use Rattle.text.specs.Words.{same_bytes}
use Rattle.text.proofs.Tables.{Named, among}
use Rattle.names.specs.Names.{Row, names, rows, row_of, call_in, call_of, Enough}
use Rattle.names.specs.declared.Call.{Call}

-- whether a name begins with another byte
abbrev pub another : ℕ → List ℕ → Bool
another x [] = true
another x (a ∷ n) = not (eqb x a)

-- whether each name does
unfoldable pub avoids : ℕ → List Row → Bool
avoids x [] = true
avoids x (r ∷ rs) = another x r.name && avoids x rs

-- whether all the names that begin with a byte stand from one place up to another
abbrev pub gathered : ℕ → ℕ → ℕ → Bool
gathered x from to = leb from to && (avoids x (take from rows) && avoids x (drop to rows))

first_holds : (a b : Bool) → a && b ≡ true → a ≡ true
first_holds true b h = refl
first_holds false b h = h

second_holds : (a b : Bool) → a && b ≡ true → b ≡ true
second_holds true b h = h
second_holds false true h = refl
second_holds false false h = h

module _ (x : ℕ) (w : List ℕ) where
  -- such a name is not the word
  unlike : (n : List ℕ) → another x n ≡ true → same_bytes (x ∷ w) n ≡ false
  unfolding same_bytes
  unlike [] h = refl
  unlike (a ∷ n) h = by (eqb x a) h
    where
      by : (t : Bool) → not t ≡ true → t && same_bytes w n ≡ false
      by true g = cc
      by false g = refl

  before : (rs ss : List Row) → avoids x rs ≡ true → call_in (x ∷ w) (rs ++ ss) ≡ call_in (x ∷ w) ss
  unfolding call_in row_of avoids
  before [] ss h = refl
  before (r ∷ rs) ss h = rw (unlike r.name (first_holds (another x r.name) (avoids x rs) h)) (before rs ss (second_holds (another x r.name) (avoids x rs) h))

  behind : (rs ss : List Row) → avoids x ss ≡ true → call_in (x ∷ w) (rs ++ ss) ≡ call_in (x ∷ w) rs
  unfolding call_in row_of avoids
  behind [] [] h = refl
  behind [] (r ∷ ss) h = rw (unlike r.name (first_holds (another x r.name) (avoids x ss) h)) (behind [] ss (second_holds (another x r.name) (avoids x ss) h))
  behind (r ∷ rs) ss h = ap (row_of (x ∷ w) r.name r.call) (behind rs ss h)

  part : (from to : ℕ) → gathered x from to ≡ true → call_in (x ∷ w) (slice_range rows from to) ≡ call_of (x ∷ w)
  unfolding call_of
  part from to h =
      let ordered = leb-true from to (first_holds (leb from to) _ h) in
      let others = second_holds (leb from to) _ h in
      sym (behind (slice_range rows from to) (drop to rows) (second_holds (avoids x (take from rows)) _ others))
      ∙ ap (call_in (x ∷ w)) (sym (drop_split rows from to ordered))
      ∙ sym (before (take from rows) (drop from rows) (first_holds (avoids x (take from rows)) _ others))
      ∙ ap (call_in (x ∷ w)) (take-append-drop from rows)

-- what the code's `together` answers
pub enough : {x from to : ℕ} → gathered x from to ≡ true → Enough x from to
enough {x} {from} {to} h = record { answers = λ w. part x w from to h }

-- what the rows of a word's first byte say is what all say
pub by_first : (w : List ℕ) (b : ℕ) {from to : ℕ} → Some b ≡ slice_get w 0 → Enough b from to → call_in w (slice_range rows from to) ≡ call_of w
by_first [] b e f = absurd (cc)
by_first (a ∷ w) b {from} {to} e f =
    let same : b ≡ a = cc in
    rw (← same) (f.answers w)

pub without_first : (w : List ℕ) → None ≡ slice_get w 0 → None ≡ call_of w
unfolding call_of call_in row_of same_bytes
without_first [] e = refl
without_first (a ∷ w) e = absurd (cc)

-- ---- a table as the code has it

abbrev pub rows_of : List (Named Call) → List Row
rows_of = map (λ p. names p.0.now p.1)

among_rows : (w : List ℕ) (ps : List (Named Call)) → among w ps ≡ call_in w (rows_of ps)
unfolding call_in row_of among
among_rows w [] = refl
among_rows w (p ∷ ps) = ap (row_of w p.0.now p.1) (among_rows w ps)

-- what a part of the table says
pub among_part :
    (w : List ℕ) (part ps : List (Named Call)) (from to : ℕ) → part ≡ slice_range ps from to → rows_of ps ≡ rows → among w part ≡ call_in w (slice_range rows from to)
among_part w part ps from to e same = among_rows w part ∙ ap (call_in w) (rw (e, ← same, drop-map, take-map) refl)
