-- What `find` finds by a word in a table of names. Assumes nothing.
use Prim.Native.Nat.{ℕ}
use mathlib.Core.Path.{◌≡◌, refl, ap, ◌∙◌}
use mathlib.Core.Bool.{Bool, true, false, cond}
use mathlib.Core.List.{List, [], ◌∷◌}
use denote.Ref.{Bor}
use Rattle.std.specs.Prelude.{Option, None, Some, find}
use Rattle.std.specs.Option.{option_map}
use Rattle.text.specs.Words.{same_bytes}

-- a row: a name, and what it names
abbrev pub Named : Type 0 → Type 0
Named A = Bor (List ℕ) × A

-- what a row that was found names
abbrev pub thing : {A : Type 0} → Option (Bor (Named A)) → Option A
thing {A} r = option_map (λ (p : Named A). p.1) (option_map (λ (p : Bor (Named A)). p.now) r)

module _ {A : Type 0} (w : List ℕ) where
  abbrev pub is_named : Named A → Bool
  is_named p = same_bytes w p.0.now

  -- the thing of the first row whose name the word is
  unfoldable pub among : List (Named A) → Option A
  among [] = None
  among (p ∷ ps) = cond (same_bytes w p.0.now) (Some p.1) (among ps)

  first : (ps : List (Named A)) → option_map (λ (p : Named A). p.1) (find is_named ps) ≡ among ps
  unfolding among
  first [] = refl
  first (p ∷ ps) = by (same_bytes w p.0.now) (first ps)
    where
      by : (t : Bool) → option_map (λ (p : Named A). p.1) (find is_named ps) ≡ among ps → option_map (λ (p : Named A). p.1) (cond t (Some p) (find is_named ps)) ≡ cond t (Some p.1) (among ps)
      by true e = refl
      by false e = e

  pub found : (ps : List (Named A)) (r : Option (Bor (Named A))) → option_map (λ (p : Bor (Named A)). p.now) r ≡ find is_named ps → thing r ≡ among ps
  found ps r e = ap (option_map (λ (p : Named A). p.1)) e ∙ first ps
