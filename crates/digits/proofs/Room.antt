-- A text that fits is put whole, and one that does not fit changes nothing. Assumes nothing.
use Prim.Native.Nat.{ℕ, ◌+◌, ◌<◌, ◌≤◌}
use mathlib.Core.Path.{◌≡◌}
use mathlib.Core.List.{List}
use lib.ListN.{length}
use lib.Seq.{paste}
use borrow.Author.Tests.{le-leb, lt-leb}
use Rattle.digits.specs.Puts.{place, put_of}

module _ (out : List ℕ) (at : ℕ) (bs : List ℕ) where
  pub no_room_lem : length out < at + length bs → place out at ≡ put_of (place out at) bs
  unfolding put_of
  no_room_lem h = rw (lt-leb (at + length bs) (length out) h)

  pub room : at + length bs ≤ length out → place (paste out at bs (length bs)) (at + length bs) ≡ put_of (place out at) bs
  unfolding put_of
  room h = rw (le-leb (at + length bs) (length out) h)
