-- 02, the replay of a shift: what a recording says, from its lines alone: RULES, recording. Assumes nothing.
use Rattle.std.specs.Prelude.{ℕ, ◌+◌, ◌-◌, Bool, true, false, cond, List, [], ◌∷◌, ◌++◌, eqb, leb, ltb, length, drop}
use Rattle.judge.specs.Numbers.{«TRACE»}
use Rattle.record.specs.Records.{is_first, judge_of}
use Rattle.record.specs.declared.Record.{Record}
use Rattle.record.specs.declared.Part.{Part}
use Rattle.record.specs.declared.Part.TheVariants as part
use Rattle.record.specs.declared.Judged.{Judged}
use Rattle.record.specs.declared.Judged.TheVariants as judged
use Rattle.recording.specs.declared.Read.{Read}
use Rattle.recording.specs.declared.Read.TheVariants as read

-- bytes as lines: each without its LF, and what stands behind the last LF
pub data Lines : Type 0 where
  line : List ℕ → Lines → Lines
  rest : List ℕ → Lines

-- the lines of bytes behind the bytes l of a line that has begun
unfoldable pub lines_from : List ℕ → List ℕ → Lines
lines_from l [] = rest l
lines_from l (b ∷ bs) = cond (eqb b 10) (line l (lines_from [] bs)) (lines_from (l ++ b ∷ []) bs)

-- what a recording says: its records, each with the place behind it, and how it ends: behind a whole record, inside
-- one, or at a bad line, with the place at which that line starts
pub data Tape : Type 0 where
  next : Record → ℕ → Tape → Tape
  over : Tape
  unfinished : Tape
  trace : ℕ → Tape

-- the records that a tape has, in order
unfoldable pub records_of : Tape → List Record
records_of (next r behind t) = r ∷ records_of t
records_of over = []
records_of unfinished = []
records_of (trace at) = []

-- whether a tape ends with `over`: behind a whole record, or before the first one
unfoldable pub is_whole : Tape → Bool
is_whole (next r behind t) = is_whole t
is_whole over = true
is_whole unfinished = false
is_whole (trace at) = false

-- what stands behind the last LF: nothing, at a record's start, or a begun line
abbrev pub lastly : Part → List ℕ → Tape
lastly p [] = cond (is_first p) over unfinished
lastly p (b ∷ l) = unfinished

-- what a judged line gives: by the next part, by the record, or as a bad one
abbrev pub by_judged : {A : Type 0} → Judged → (Part → A) → (Record → A) → A → A
by_judged (judged.Next p) f g bad = f p
by_judged (judged.Whole r) f g bad = g r
by_judged judged.Bad f g bad = bad

-- the lines behind a part of a record, which has room for so many bytes; the first of them starts at a place. A line is
-- bad by what it says, or where the record has no room for its LF: RULES, bad-line and record-room
unfoldable pub tape_of : Part → ℕ → ℕ → Lines → Tape
tape_of p room at (rest l) = cond (leb (length l) room) (lastly p l) (trace at)
tape_of p room at (line l ls) =
    cond (ltb (length l) room)
    (by_judged (judge_of p l)
    (λ q. tape_of q (room - (length l + 1)) (at + (length l + 1)) ls)
    (λ r. next r (at + (length l + 1)) (tape_of part.Op 64 (at + (length l + 1)) ls))
    (trace at))
    (trace at)

-- what a recording says from a record's start on
abbrev pub tape_at : List ℕ → ℕ → Tape
tape_at s at = tape_of part.Op 64 at (lines_from [] (drop at s))

-- the first thing of it
abbrev pub first_of : Tape → Read
first_of (next r behind t) = read.Record r behind
first_of over = read.End
first_of unfinished = read.Unfinished
first_of (trace at) = read.Bad at

abbrev pub record_at : List ℕ → ℕ → Read
record_at s at = first_of (tape_at s at)

-- ---- what such an answer tells

-- a record and the place behind it, nothing more, or a refusal's number with its place
pub data ReadTold : Type 0 where
  recorded : Record → ℕ → ReadTold
  ended : ReadTold
  refused_at : ℕ → ℕ → ReadTold

-- of a recording of so many bytes: one that ends inside a record is refused at its length: RULES, trace
abbrev pub told_read : ℕ → Read → ReadTold
told_read n (read.Record r behind) = recorded r behind
told_read n read.End = ended
told_read n read.Unfinished = refused_at «TRACE» n
told_read n (read.Bad at) = refused_at «TRACE» at
