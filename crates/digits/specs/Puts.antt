-- What putting a text into a lent buffer does. Assumes nothing.
use Rattle.std.specs.Prelude.{ℕ, ◌+◌, cond, List, [], ◌∷◌, ◌++◌, leb, length}
use Rattle.std.proofs.Math.Seq.{paste}

-- a buffer, and the place in it where the next text goes
pub record Put : Type 0 where
  pub out : List ℕ
  pub at : ℕ

abbrev pub place : List ℕ → ℕ → Put
place out at = record { out = out; at = at }

-- where the bytes fit, the buffer holds them from the place on, every other byte is as before, and the next place is
-- behind them; where they do not fit, nothing changes
unfoldable pub put_of : Put → List ℕ → Put
put_of p bs =
    cond (leb (p.at + length bs) (length p.out))
    (place (paste p.out p.at bs (length bs)) (p.at + length bs))
    p

-- the pieces of a text, put one after the other. Where the whole text fits, that is the text put at once (`whole_fits`
-- of this crate's proofs)
abbrev pub put_all : Put → List (List ℕ) → Put
put_all p [] = p
put_all p (bs ∷ rest) = put_all (put_of p bs) rest

-- a text whose pieces are these
abbrev pub whole : List (List ℕ) → List ℕ
whole [] = []
whole (bs ∷ rest) = bs ++ whole rest

-- a line's end: LF
abbrev pub line_end : List ℕ
line_end = 0x0a ∷ []

abbrev pub line_of : List (List ℕ) → List (List ℕ)
line_of text = text ++ (line_end ∷ [])
