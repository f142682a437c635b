-- How records are written down: the bytes that a recording of them has: RULES, recorder. Assumes nothing.
use Rattle.std.specs.Prelude.{ℕ, ◌≤◌, List, [], ◌∷◌, ◌++◌}
use Rattle.digits.specs.Digits.{number_text, hex_text}
use Rattle.record.specs.Records.{«op=add», «op=drop», «op=start», «op=stop», «op=reset», «op=speed», «op=frame», «slot=», «gen=», «arg=», limits_of}
use Rattle.record.specs.declared.Op.{Op}
use Rattle.record.specs.declared.Op.TheVariants as op
use Rattle.record.specs.declared.Record.{Record}

-- the line that names an op, without its LF
abbrev pub op_text : Op → List ℕ
op_text op.Add = «op=add»
op_text op.Drop = «op=drop»
op_text op.Start = «op=start»
op_text op.Stop = «op=stop»
op_text op.Reset = «op=reset»
op_text op.Speed = «op=speed»
op_text op.Frame = «op=frame»

-- a line with its LF
abbrev pub ended : List ℕ → List ℕ
ended l = l ++ 10 ∷ []

-- a record: its op, its slot and its generation in decimal, its arg as 16 hex digits, a line for each
unfoldable pub text_of : Record → List ℕ
text_of r =
    ended (op_text r.op)
    ++ ended («slot=» ++ number_text r.slot)
    ++ ended («gen=» ++ number_text r.generation)
    ++ ended («arg=» ++ hex_text r.arg)

-- records, one behind the other, with nothing between them
unfoldable pub written_of : List Record → List ℕ
written_of [] = []
written_of (r ∷ rs) = text_of r ++ written_of rs

-- a record's numbers are at most what its op allows
pub record Writable (r : Record) : Type 0 where
  pub slot : r.slot ≤ (limits_of r.op).slot
  pub generation : r.generation ≤ (limits_of r.op).generation
  pub arg : r.arg ≤ (limits_of r.op).arg

-- every element of a list
abbrev pub All : {A : Type 0} → (A → Type 0) → List A → Type 0
All P [] = Unit {0}
All P (x ∷ xs) = P x × All P xs
