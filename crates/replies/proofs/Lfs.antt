-- A text whose LFs are shown byte by byte: after i bytes, and after all of them. Assumes nothing.
use Prim.Native.Nat.{ℕ, zero, suc, ◌+◌, ◌<◌}
use native.Mathlib.Omega.{arith}
use native.Mathlib.Numerals.{add-one}
use mathlib.Core.Path.{◌≡◌, refl, ap, ◌∙◌}
use mathlib.Core.List.{List, [], ◌∷◌, map}
use lib.ListN.{length, get_or, set}
use Rattle.replies.specs.Replies.{shown_of}

-- the first i bytes are shown
abbrev pub shown_to : ℕ → List ℕ → List ℕ
shown_to zero s = s
shown_to (suc i) [] = []
shown_to (suc i) (b ∷ s) = shown_of b ∷ shown_to i s

shown_all : (s : List ℕ) → shown_to (length s) s ≡ map shown_of s
shown_all [] = refl
shown_all (b ∷ s) = ap (λ (t : List ℕ). shown_of b ∷ t) (shown_all s)

-- the byte at i is not shown yet
shown_read : (i : ℕ) (s : List ℕ) (d : ℕ) → get_or (shown_to i s) i d ≡ get_or s i d
shown_read zero s d = refl
shown_read (suc i) [] d = refl
shown_read (suc i) (b ∷ s) d = shown_read i s d

-- one byte more
shown_next : (i : ℕ) (s : List ℕ) (d : ℕ) → i < length s → set (shown_to i s) i (shown_of (get_or s i d)) ≡ shown_to (suc i) s
shown_next i [] d h = absurd (omega arith)
shown_next zero (b ∷ s) d h = refl
shown_next (suc i) (b ∷ s) d h = ap (λ (t : List ℕ). shown_of b ∷ t) (shown_next i s d (omega arith))

-- a turn of the loop
pub turn : (s now : List ℕ) (i d b : ℕ) → now ≡ shown_to i s → i < length s → b ≡ shown_of (get_or now i d) → set now i b ≡ shown_to (i + 1) s
turn s now i d b e h f = rw (f, e, shown_read i s d, add-one i) (shown_next i s d h)

-- and its end
pub all_shown : (s now : List ℕ) (i : ℕ) → now ≡ shown_to i s → i ≡ length s → now ≡ map shown_of s
all_shown s now i e h = e ∙ ap (λ (i : ℕ). shown_to i s) h ∙ shown_all s
