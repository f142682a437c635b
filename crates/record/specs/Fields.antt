-- A line of the form `name=value`, without its LF: RULES, field and recorded-numbers. Assumes nothing.
use Rattle.std.specs.Prelude.{ℕ, Bool, cond, List, Option, None, Some, leb, length, take, drop}
use Rattle.text.specs.Numbers.{hex16_of, decimal_of}
pub use Rattle.text.specs.Words.{same_bytes}

-- whether a line begins with a name
unfoldable pub begins : List ℕ → List ℕ → Bool
begins name line = same_bytes (take (length name) line) name

-- the number that was read, where it is at most so much
abbrev pub up_to : ℕ → Option ℕ → Option ℕ
up_to most (Some v) = cond (leb v most) (Some v) None
up_to most None = None

-- decimal digits behind a name, with no zero in front
unfoldable pub decimal_behind : ℕ → List ℕ → List ℕ → Option ℕ
decimal_behind most name line = cond (begins name line) (up_to most (decimal_of (drop (length name) line))) None

-- sixteen hexadecimal digits behind a name
unfoldable pub hex_behind : ℕ → List ℕ → List ℕ → Option ℕ
hex_behind most name line = cond (begins name line) (up_to most (hex16_of (drop (length name) line))) None
