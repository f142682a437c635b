-- Texts put into an `Out` one after the other. Assumes nothing.
use Prim.Native.Nat.{ℕ}
use mathlib.Core.Path.{◌≡◌, refl, sym, ap, ◌∙◌}
use mathlib.Core.List.{List, [], ◌∷◌, ◌++◌}
use Rattle.digits.specs.declared.Out.{Out}
use Rattle.digits.specs.Puts.{place, line_end, line_of}
use Rattle.digits.specs.Outs.{holding, placed, put_in}
use Rattle.digits.proofs.Pieces.{after}

-- a text, and another behind it
pub behind : (o : Out) (a b : List (List ℕ)) → put_in o (a ++ b) ≡ put_in (put_in o a) b
behind o a b = ap (holding o) (after (place o.bytes.now o.at) a b)

-- a text, and the line's end
pub line : (o : Out) {p q : Out} (text : List (List ℕ)) → p ≡ put_in o text → q ≡ put_in p (line_end ∷ []) → q ≡ put_in o (line_of text)
line o text e f = f ∙ ap (λ (p : Out). put_in p (line_end ∷ [])) e ∙ sym (behind o text (line_end ∷ []))

-- the buffer once the loan has ended, and the place that was asked for
pub by_end : (o : Out) {out : List ℕ} {n : ℕ} → out ≡ o.bytes.now → n ≡ o.at → place out n ≡ placed o
by_end o e f = rw (e, f) refl
