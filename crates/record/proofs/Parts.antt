-- Behind a line of a record no line is a record's first. Assumes nothing.
use Prim.Native.Nat.{ℕ}
use mathlib.Core.Path.{◌≡◌}
use mathlib.Core.Bool.{false}
use mathlib.Core.List.{List}
use Rattle.std.specs.Prelude.{Option, None, Some}
use Rattle.record.specs.Fields.{decimal_behind, hex_behind}
use Rattle.record.specs.Records.{«slot=», «gen=», «arg=», op_of, limits_of, is_first, by_op, by_slot, by_generation, by_arg, judge_of}
use Rattle.record.specs.declared.Op.{Op}
use Rattle.record.specs.declared.Part.{Part}
use Rattle.record.specs.declared.Part.TheVariants as part
use Rattle.record.specs.declared.Judged.{Judged}
use Rattle.record.specs.declared.Judged.TheVariants as judged

module _ (q : Part) where
  abbrev NotFirst : Judged → Type 0
  NotFirst v = v ≡ judged.Next q → is_first q ≡ false

  by_op_lem : (o : Option Op) → NotFirst (by_op o)
  by_op_lem (Some o) e = cc
  by_op_lem None e = cc

  by_slot_lem : (o : Op) (s : Option ℕ) → NotFirst (by_slot o s)
  by_slot_lem o (Some s) e = cc
  by_slot_lem o None e = cc

  by_generation_lem : (o : Op) (s : ℕ) (g : Option ℕ) → NotFirst (by_generation o s g)
  by_generation_lem o s (Some g) e = cc
  by_generation_lem o s None e = cc

  by_arg_lem : (o : Op) (s g : ℕ) (a : Option ℕ) → NotFirst (by_arg o s g a)
  by_arg_lem o s g (Some a) e = cc
  by_arg_lem o s g None e = cc

  pub not_first : (p : Part) (l : List ℕ) → NotFirst (judge_of p l)
  unfolding judge_of
  not_first part.Op l = by_op_lem (op_of l)
  not_first (part.Slot o) l = by_slot_lem o (decimal_behind (limits_of o).slot «slot=» l)
  not_first (part.Generation o s) l = by_generation_lem o s (decimal_behind (limits_of o).generation «gen=» l)
  not_first (part.Arg o s g) l = by_arg_lem o s g (hex_behind (limits_of o).arg «arg=» l)
