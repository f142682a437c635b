-- 02, the replay of a shift: a record's four lines, each without its LF: RULES, record and record-limits. Assumes
-- nothing.
use Rattle.std.specs.Prelude.{ℕ, ◌-◌, ◌^◌, Bool, true, false, cond, List, [], ◌∷◌, Option, None, Some}
use Rattle.record.specs.Fields.{same_bytes, decimal_behind, hex_behind}
use Rattle.record.specs.declared.Op.{Op}
use Rattle.record.specs.declared.Op.TheVariants as op
use Rattle.record.specs.declared.Part.{Part}
use Rattle.record.specs.declared.Part.TheVariants as part
use Rattle.record.specs.declared.Judged.{Judged}
use Rattle.record.specs.declared.Judged.TheVariants as judged
use Rattle.record.specs.declared.Limits.{Limits}

-- ---- the words that lines begin with

abbrev pub «op=add» : List ℕ
«op=add» = 0x6f ∷ 0x70 ∷ 0x3d ∷ 0x61 ∷ 0x64 ∷ 0x64 ∷ []

abbrev pub «op=drop» : List ℕ
«op=drop» = 0x6f ∷ 0x70 ∷ 0x3d ∷ 0x64 ∷ 0x72 ∷ 0x6f ∷ 0x70 ∷ []

abbrev pub «op=start» : List ℕ
«op=start» = 0x6f ∷ 0x70 ∷ 0x3d ∷ 0x73 ∷ 0x74 ∷ 0x61 ∷ 0x72 ∷ 0x74 ∷ []

abbrev pub «op=stop» : List ℕ
«op=stop» = 0x6f ∷ 0x70 ∷ 0x3d ∷ 0x73 ∷ 0x74 ∷ 0x6f ∷ 0x70 ∷ []

abbrev pub «op=reset» : List ℕ
«op=reset» = 0x6f ∷ 0x70 ∷ 0x3d ∷ 0x72 ∷ 0x65 ∷ 0x73 ∷ 0x65 ∷ 0x74 ∷ []

abbrev pub «op=speed» : List ℕ
«op=speed» = 0x6f ∷ 0x70 ∷ 0x3d ∷ 0x73 ∷ 0x70 ∷ 0x65 ∷ 0x65 ∷ 0x64 ∷ []

abbrev pub «op=frame» : List ℕ
«op=frame» = 0x6f ∷ 0x70 ∷ 0x3d ∷ 0x66 ∷ 0x72 ∷ 0x61 ∷ 0x6d ∷ 0x65 ∷ []

abbrev pub «slot=» : List ℕ
«slot=» = 0x73 ∷ 0x6c ∷ 0x6f ∷ 0x74 ∷ 0x3d ∷ []

abbrev pub «gen=» : List ℕ
«gen=» = 0x67 ∷ 0x65 ∷ 0x6e ∷ 0x3d ∷ []

abbrev pub «arg=» : List ℕ
«arg=» = 0x61 ∷ 0x72 ∷ 0x67 ∷ 0x3d ∷ []

-- ---- the first line

-- one of seven ops
unfoldable pub op_of : List ℕ → Option Op
op_of l =
    cond (same_bytes l «op=add») (Some op.Add)
    (cond (same_bytes l «op=drop») (Some op.Drop)
    (cond (same_bytes l «op=start») (Some op.Start)
    (cond (same_bytes l «op=stop») (Some op.Stop)
    (cond (same_bytes l «op=reset») (Some op.Reset)
    (cond (same_bytes l «op=speed») (Some op.Speed)
    (cond (same_bytes l «op=frame») (Some op.Frame) None))))))

-- ---- the numbers behind it

abbrev pub up_most : ℕ → ℕ → ℕ → Limits
up_most s g a = record { slot = s; generation = g; arg = a }

-- one of 16 slots and any generation of 32 bits, both 0 in a frame; any double's bits where the op takes a double, else
-- 0
abbrev pub limits_of : Op → Limits
limits_of op.Add = up_most 15 4294967295 (2 ^ 64 - 1)
limits_of op.Drop = up_most 15 4294967295 0
limits_of op.Start = up_most 15 4294967295 0
limits_of op.Stop = up_most 15 4294967295 0
limits_of op.Reset = up_most 15 4294967295 0
limits_of op.Speed = up_most 15 4294967295 (2 ^ 64 - 1)
limits_of op.Frame = up_most 0 0 (2 ^ 64 - 1)

-- ---- a line behind a part of a record

-- whether a record's first line is the next one
abbrev pub is_first : Part → Bool
is_first part.Op = true
is_first (part.Slot o) = false
is_first (part.Generation o s) = false
is_first (part.Arg o s g) = false

abbrev pub by_op : Option Op → Judged
by_op (Some o) = judged.Next (part.Slot o)
by_op None = judged.Bad

abbrev pub by_slot : Op → Option ℕ → Judged
by_slot o (Some s) = judged.Next (part.Generation o s)
by_slot o None = judged.Bad

abbrev pub by_generation : Op → ℕ → Option ℕ → Judged
by_generation o s (Some g) = judged.Next (part.Arg o s g)
by_generation o s None = judged.Bad

abbrev pub by_arg : Op → ℕ → ℕ → Option ℕ → Judged
by_arg o s g (Some a) = judged.Whole (record { op = o; slot = s; generation = g; arg = a })
by_arg o s g None = judged.Bad

-- the four lines in their order, each judged by what the record has said so far
unfoldable pub judge_of : Part → List ℕ → Judged
judge_of part.Op l = by_op (op_of l)
judge_of (part.Slot o) l = by_slot o (decimal_behind (limits_of o).slot «slot=» l)
judge_of (part.Generation o s) l = by_generation o s (decimal_behind (limits_of o).generation «gen=» l)
judge_of (part.Arg o s g) l = by_arg o s g (hex_behind (limits_of o).arg «arg=» l)
