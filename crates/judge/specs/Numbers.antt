-- The numbers of the refusal table, each by its name in document 01, "Refusal numbers", or in 02, where that came with
-- it or changed it: RULES, refusal-numbers. They are written here and nowhere else. Assumes nothing.
use Rattle.std.specs.Prelude.{ℕ}

abbrev pub BAD_DT : ℕ
BAD_DT = 1

abbrev pub BAD_FLOAT : ℕ
BAD_FLOAT = 2

abbrev pub BAD_SPEED : ℕ
BAD_SPEED = 3

abbrev pub BAD_EASE : ℕ
BAD_EASE = 4

abbrev pub BAD_MAP : ℕ
BAD_MAP = 5

abbrev pub BAD_TIME : ℕ
BAD_TIME = 6

abbrev pub «GONE» : ℕ
«GONE» = 7

abbrev pub NO_ROOM : ℕ
NO_ROOM = 8

abbrev pub TOO_FAR : ℕ
TOO_FAR = 9

abbrev pub TICKS_FULL : ℕ
TICKS_FULL = 10

abbrev pub «BUFFER» : ℕ
«BUFFER» = 11

abbrev pub BEFORE_ZERO : ℕ
BEFORE_ZERO = 12

-- ---- of a recording, and not of a call: 02, the replay of a shift

abbrev pub «TRACE» : ℕ
«TRACE» = 13

abbrev pub WRONG_ID : ℕ
WRONG_ID = 14

-- ---- of an id again, beside GONE: 02, dead or never ours

abbrev pub NEVER_ISSUED : ℕ
NEVER_ISSUED = 15
