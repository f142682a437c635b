-- Texts put one after the other; where all of them fit, that is their whole put at once. Assumes nothing.
use Prim.Native.Nat.{ℕ, ◌+◌, ◌≤◌}
use native.Mathlib.Nat.{add-zero, add_assoc, le_refl}
use native.Mathlib.Omega.{arith}
use mathlib.Core.Path.{◌≡◌, refl, sym, ap, ◌∙◌}
use mathlib.Core.List.{List, [], ◌∷◌, ◌++◌, append_assoc}
use lib.ListN.{length, take, drop, length-append}
use lib.Seq.{paste, paste-zero, take-paste, drop-paste, length-paste, take-length, drop-drop}
use Rattle.digits.specs.Puts.{Put, place, put_of, put_all, whole, line_end, line_of}
use Rattle.digits.proofs.Room.{room}

pub after : (p : Put) (a b : List (List ℕ)) → put_all p (a ++ b) ≡ put_all (put_all p a) b
after p [] b = refl
after p (t ∷ a) b = after (put_of p t) a b

-- a text, and the line's end
pub line : (p : Put) {q r : Put} (text : List (List ℕ)) → q ≡ put_all p text → r ≡ put_of q line_end → r ≡ put_all p (line_of text)
line p text e f = f ∙ ap (λ (q : Put). put_of q line_end) e ∙ sym (after p text (line_end ∷ []))

-- nothing put
none : (out : List ℕ) (at : ℕ) → at + 0 ≤ length out → place out at ≡ put_of (place out at) []
none out at h =
    ap (λ (o : List ℕ). place o at) (paste-zero out at [])
    ∙ ap (λ (k : ℕ). place (paste out at [] 0) k) (sym (add-zero at))
    ∙ room out at [] h

-- two texts, which fit: the second stands behind the first
module _ (out : List ℕ) (at : ℕ) (s t : List ℕ) (fits : at + length (s ++ t) ≤ length out) where
  abbrev first : List ℕ
  first = paste out at s (length s)

  abbrev behind : ℕ
  behind = at + length s

  fits_first : behind ≤ length out
  fits_first = omega (arith, length-append s t)

  fits_second : behind + length t ≤ length first
  fits_second = omega (arith, length-append s t, length-paste out at s (length s) fits_first (le_refl (length s)))

  pasted : paste first behind t (length t) ≡ paste out at (s ++ t) (length (s ++ t))
  pasted =
      ap (λ (l : List ℕ). l ++ take (length t) t ++ drop (behind + length t) first) (take-paste out at s (length s) (omega (arith, fits_first)) (le_refl (length s)))
      ∙ ap (λ (l : List ℕ). (take at out ++ take (length s) s) ++ take (length t) t ++ l)
      (sym (drop-drop (length t) behind first)
      ∙ ap (drop (length t)) (drop-paste out at s (length s) (omega (arith, fits_first)) (le_refl (length s)))
      ∙ drop-drop (length t) behind out)
      ∙ rw (take-length s, take-length t, take-length (s ++ t), length-append s t, append_assoc (take at out) s t, add_assoc at (length s) (length t))

  joined : put_of (put_of (place out at) s) t ≡ put_of (place out at) (s ++ t)
  joined =
      ap (λ (p : Put). put_of p t) (sym (room out at s fits_first))
      ∙ sym (room first behind t fits_second)
      ∙ ap (λ (o : List ℕ). place o (behind + length t)) pasted
      ∙ ap (place (paste out at (s ++ t) (length (s ++ t)))) (omega (arith, length-append s t))
      ∙ room out at (s ++ t) fits

-- a whole text that fits
pub whole_fits : (texts : List (List ℕ)) (out : List ℕ) (at : ℕ) → at + length (whole texts) ≤ length out → put_all (place out at) texts ≡ put_of (place out at) (whole texts)
whole_fits [] out at h = none out at h
whole_fits (s ∷ rest) out at h =
    let t = whole rest in
    let one = room out at s (fits_first out at s t h) in
    ap (λ (p : Put). put_all p rest) (sym one)
    ∙ whole_fits rest (first out at s t h) (behind out at s t h) (fits_second out at s t h)
    ∙ ap (λ (p : Put). put_of p t) one
    ∙ joined out at s t h
