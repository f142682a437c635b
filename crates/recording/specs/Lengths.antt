-- How many bytes stand before the first LF. Assumes nothing.
use Rattle.std.specs.Prelude.{ℕ, ◌<◌, ◌≤◌, ◌≡◌, List, [], length, take, drop, get_or}
use Rattle.recording.specs.Recordings.{lines_from}

-- n of the bytes, which may be at most so many, belong to the first line
pub record InLine (most : ℕ) (bs : List ℕ) (n : ℕ) : Type 0 where
  pub small : n ≤ most
  pub inside : n ≤ length bs
  pub begun : lines_from (take n bs) (drop n bs) ≡ lines_from [] bs

-- and its LF stands behind them, unless there are so many, or the bytes end
pub record LineLength (most : ℕ) (bs : List ℕ) (n : ℕ) : Type 0 where
  pub in_line : InLine most bs n
  pub ended : n < most → n < length bs → get_or bs n 0 ≡ 10
