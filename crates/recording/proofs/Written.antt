-- What is written down is read back: of the bytes of writable records a recording has those records, and ends behind
-- the last of them. Assumes nothing.
use Prim.Native.Nat.{ℕ, zero, suc, ◌+◌, ◌-◌, ◌/◌, ◌%◌, ◌^◌, ◌<◌, ◌≤◌}
use native.Mathlib.Decide.{dec_lt}
use native.Mathlib.Omega.{arith}
use mathlib.Core.Path.{◌≡◌, refl, ap, ◌∙◌}
use mathlib.Core.Bool.{true}
use mathlib.Core.List.{List, [], ◌∷◌, ◌++◌, append-nil, append_assoc}
use borrow.Author.Tests.{lt-ltb, le-ltb, le-leb, ne_eqb}
use lib.ListN.{length, length-append}
use lib.Seq.{take-append_seam, drop-append_seam}
use Rattle.io.specs.Digits.{hex_digit_ascii, last_digits}
use Rattle.std.specs.Prelude.{Some}
use Rattle.digits.specs.Digits.{places_from, number_text, hex_text}
use Rattle.digits.proofs.Back.{decimal_back, hex_back}
use Rattle.digits.proofs.Lengths.{number_length, hex_length}
use Rattle.text.specs.Words.{same_bytes}
use Rattle.text.proofs.Bytes.{same_self}
use Rattle.record.specs.Fields.{begins, decimal_behind, hex_behind}
use Rattle.record.specs.Records.{«slot=», «gen=», «arg=», op_of, limits_of, judge_of}
use Rattle.record.specs.declared.Op.{Op}
use Rattle.record.specs.declared.Op.TheVariants as op
use Rattle.record.specs.declared.Record.{Record}
use Rattle.record.specs.declared.Part.{Part}
use Rattle.record.specs.declared.Part.TheVariants as part
use Rattle.record.specs.declared.Judged.TheVariants as judged
use Rattle.recording.specs.Recordings.{line, lines_from, next, trace, by_judged, tape_of, tape_at, records_of, is_whole}
use Rattle.recording.specs.Writings.{op_text, ended, text_of, written_of, Writable, All}

-- ---- a line has no LF inside it: the bytes of its names and digits are all above the space

abbrev Clean : List ℕ → Type 0
Clean l = All (λ (b : ℕ). 32 < b) l

clean_line : (l done bs : List ℕ) → Clean l → lines_from done (l ++ 10 ∷ bs) ≡ line (done ++ l) (lines_from [] bs)
unfolding lines_from
clean_line [] done bs c = rw append-nil
clean_line (b ∷ l) done bs c = rw (ne_eqb b 10 (λ e. omega arith)) (clean_line l (done ++ b ∷ []) bs c.1 ∙ rw append_assoc)

clean_glyph : (d : ℕ) → 32 < hex_digit_ascii d
clean_glyph d = by (dec_lt d 10)
  where
    by : Dec (d < 10) → 32 < hex_digit_ascii d
    by (yes a) = rw (lt-ltb d 10 a) (omega arith)
    by (no a) = rw (le-ltb d 10 (omega arith)) (omega arith)

clean_both : (a b : List ℕ) → Clean a → Clean b → Clean (a ++ b)
clean_both [] b c d = d
clean_both (x ∷ a) b c d = (c.0, clean_both a b c.1 d)

clean_digits : (b k n : ℕ) → Clean (last_digits b k n)
clean_digits b zero n = tt
clean_digits b (suc k) n = clean_both (last_digits b k (n / b)) (hex_digit_ascii (n % b) ∷ []) (clean_digits b k (n / b)) (clean_glyph (n % b), tt)

clean_number : (n : ℕ) → Clean (number_text n)
unfolding number_text
clean_number n = clean_digits 10 (places_from n 1 n) n

clean_hex : (n : ℕ) → Clean (hex_text n)
unfolding hex_text
clean_hex n = clean_digits 16 16 n

clean_op : (o : Op) → Clean (op_text o)
clean_op op.Add = omega arith
clean_op op.Drop = omega arith
clean_op op.Start = omega arith
clean_op op.Stop = omega arith
clean_op op.Reset = omega arith
clean_op op.Speed = omega arith
clean_op op.Frame = omega arith

-- ---- what a line says

op_back : (o : Op) → judge_of part.Op (op_text o) ≡ judged.Next (part.Slot o)
unfolding judge_of op_of same_bytes
op_back op.Add = refl
op_back op.Drop = refl
op_back op.Start = refl
op_back op.Stop = refl
op_back op.Reset = refl
op_back op.Speed = refl
op_back op.Frame = refl

begins_back : (name l : List ℕ) → begins name (name ++ l) ≡ true
unfolding begins
begins_back name l = rw (take-append_seam name l) (same_self name)

decimal_behind_back : (name : List ℕ) (most n : ℕ) → n ≤ most → n < 2 ^ 64 → decimal_behind most name (name ++ number_text n) ≡ Some n
unfolding decimal_behind
decimal_behind_back name most n l h = rw (begins_back name (number_text n), drop-append_seam name (number_text n), decimal_back n h, le-leb n most l)

hex_behind_back : (name : List ℕ) (most n : ℕ) → n ≤ most → n < 2 ^ 64 → hex_behind most name (name ++ hex_text n) ≡ Some n
unfolding hex_behind
hex_behind_back name most n l h = rw (begins_back name (hex_text n), drop-append_seam name (hex_text n), hex_back n h, le-leb n most l)

-- ---- a line and a record, with bytes behind it

lined :
    (p : Part) (room at : ℕ) (l bs : List ℕ) → Clean l → length l < room
    → tape_of p room at (lines_from [] (l ++ 10 ∷ bs))
    ≡ by_judged (judge_of p l)
    (λ q. tape_of q (room - (length l + 1)) (at + (length l + 1)) (lines_from [] bs))
    (λ r. next r (at + (length l + 1)) (tape_of part.Op 64 (at + (length l + 1)) (lines_from [] bs)))
    (trace at)
unfolding tape_of
lined p room at l bs c h = rw (clean_line l [] bs c, lt-ltb (length l) room h)

module _ (a b c d : List ℕ) where
  abbrev four : List ℕ
  four = ended a ++ ended b ++ ended c ++ ended d

  four_length : length four ≡ length a + 1 + (length b + 1) + (length c + 1) + (length d + 1)
  four_length = simp length-append

  four_apart : (bs : List ℕ) → four ++ bs ≡ a ++ 10 ∷ (b ++ 10 ∷ (c ++ 10 ∷ (d ++ 10 ∷ bs)))
  four_apart bs = simp append_assoc

  -- four lines that say a record, and for which it has room
  four_back :
      (r : Record) (at : ℕ) (bs : List ℕ) → Clean a × Clean b × Clean c × Clean d → length four ≤ 64
      → judge_of part.Op a ≡ judged.Next (part.Slot r.op)
      → judge_of (part.Slot r.op) b ≡ judged.Next (part.Generation r.op r.slot)
      → judge_of (part.Generation r.op r.slot) c ≡ judged.Next (part.Arg r.op r.slot r.generation)
      → judge_of (part.Arg r.op r.slot r.generation) d ≡ judged.Whole r
      → tape_of part.Op 64 at (lines_from [] (four ++ bs)) ≡ next r (at + length four) (tape_of part.Op 64 (at + length four) (lines_from [] bs))
  four_back r at bs clean h ea eb ec ed =
      let n = four_length in
      let place : at + (length a + 1) + (length b + 1) + (length c + 1) + (length d + 1) ≡ at + length four = omega arith in
      rw four_apart
      (lined _ _ _ a _ clean.0 (omega arith) ∙ rw ea
      (lined _ _ _ b _ clean.1 (omega arith) ∙ rw eb
      (lined _ _ _ c _ clean.2 (omega arith) ∙ rw ec
      (lined _ _ _ d _ clean.3 (omega arith) ∙ rw (ed, place)))))

bounds : (o : Op) → (length (op_text o) ≤ 8) × ((limits_of o).slot ≤ 15) × ((limits_of o).generation ≤ 4294967295) × ((limits_of o).arg < 2 ^ 64)
bounds op.Add = omega arith
bounds op.Drop = omega arith
bounds op.Start = omega arith
bounds op.Stop = omega arith
bounds op.Reset = omega arith
bounds op.Speed = omega arith
bounds op.Frame = omega arith

-- no record has more than 53 bytes
text_length : (r : Record) → Writable r → length (text_of r) ≤ 53
unfolding text_of
text_length r w =
    let m = bounds r.op in
    omega (
      arith,
      four_length (op_text r.op) («slot=» ++ number_text r.slot) («gen=» ++ number_text r.generation) («arg=» ++ hex_text r.arg),
      number_length r.slot 2 (omega arith) (omega arith),
      number_length r.generation 10 (omega arith) (omega arith),
      hex_length r.arg,
    )

record_back :
    (r : Record) → Writable r → (at : ℕ) (bs : List ℕ)
    → tape_of part.Op 64 at (lines_from [] (text_of r ++ bs)) ≡ next r (at + length (text_of r)) (tape_of part.Op 64 (at + length (text_of r)) (lines_from [] bs))
unfolding text_of judge_of
record_back r w at bs =
    let m = bounds r.op in
    let n = text_length r w in
    four_back (op_text r.op) («slot=» ++ number_text r.slot) («gen=» ++ number_text r.generation) («arg=» ++ hex_text r.arg) r at bs (
      clean_op r.op,
      clean_both «slot=» (number_text r.slot) (omega arith) (clean_number r.slot),
      clean_both «gen=» (number_text r.generation) (omega arith) (clean_number r.generation),
      clean_both «arg=» (hex_text r.arg) (omega arith) (clean_hex r.arg),
    )
    (omega arith)
    (op_back r.op)
    (rw (decimal_behind_back «slot=» (limits_of r.op).slot r.slot w.slot (omega arith)))
    (rw (decimal_behind_back «gen=» (limits_of r.op).generation r.generation w.generation (omega arith)))
    (rw (hex_behind_back «arg=» (limits_of r.op).arg r.arg w.arg (omega arith)))

-- ---- records, from a place on, and from the start

back :
    (rs : List Record) → All Writable rs → (at : ℕ)
    → (records_of (tape_of part.Op 64 at (lines_from [] (written_of rs))) ≡ rs) × (is_whole (tape_of part.Op 64 at (lines_from [] (written_of rs))) ≡ true)
unfolding records_of is_whole written_of tape_of lines_from
back [] h at = (refl, refl)
back (r ∷ rs) h at =
    let on = back rs h.1 (at + length (text_of r)) in
    rw (record_back r h.0 at (written_of rs)) (ap (λ (t : List Record). r ∷ t) on.0, on.1)

pub read_back : (rs : List Record) → All Writable rs → records_of (tape_at (written_of rs) 0) ≡ rs
read_back rs h = (back rs h 0).0

pub whole_back : (rs : List Record) → All Writable rs → is_whole (tape_at (written_of rs) 0) ≡ true
whole_back rs h = (back rs h 0).1
