-- Behind a record a recording goes on as from its start. Assumes nothing.
use Prim.Native.Nat.{ℕ, suc, ◌+◌, ◌-◌, ◌<◌, ◌≤◌}
use native.Mathlib.Omega.{arith}
use mathlib.Core.Path.{◌≡◌, refl, sym, ap, ◌∙◌}
use mathlib.Core.Bool.{Bool, true, false, cond}
use mathlib.Core.List.{List, [], ◌∷◌, ◌++◌}
use lib.Dec.{eqb, leb, ltb}
use lib.ListN.{length, drop, length-append, length-drop}
use lib.Seq.{drop-drop}
use Rattle.record.specs.Records.{judge_of}
use Rattle.record.specs.declared.Record.{Record}
use Rattle.record.specs.declared.Part.{Part}
use Rattle.record.specs.declared.Part.TheVariants as part
use Rattle.record.specs.declared.Judged.{Judged}
use Rattle.record.specs.declared.Judged.TheVariants as judged
use Rattle.recording.specs.Recordings.{line, lines_from, Tape, next, over, unfinished, trace, lastly, by_judged, tape_of, tape_at, first_of, record_at}
use Rattle.recording.specs.declared.Read.TheVariants as read

-- what stands behind a record, at a place of the bytes
record Behind (at : ℕ) (bs : List ℕ) (k : ℕ) (t : Tape) : Type 0 where
  goes : t ≡ tape_of part.Op 64 k (lines_from [] (drop (k - at) bs))
  past : at < k
  within : k ≤ at + length bs

module _ (r : Record) (k : ℕ) (t : Tape) where
  -- bytes without an LF have no record
  none : (p : Part) (at : ℕ) (l : List ℕ) (c : Bool) → cond c (lastly p l) (trace at) ≡ next r k t → ◌≡◌ {A = ℕ} 0 1
  none p at l false e = cc
  none p at (b ∷ l) true e = cc
  none part.Op at [] true e = cc
  none (part.Slot o) at [] true e = cc
  none (part.Generation o s) at [] true e = cc
  none (part.Arg o s g) at [] true e = cc

  -- a place of bs that is one behind a place of b ∷ bs
  on : (b : ℕ) (bs : List ℕ) (at : ℕ) → Behind (at + 1) bs k t → Behind at (b ∷ bs) k t
  on b bs at d =
      let one : k - at ≡ suc (k - (at + 1)) = omega (arith, d.past) in
      record { goes = rw one d.goes; past = omega (arith, d.past); within = omega (arith, d.within) }

  -- the lines of bs behind the bytes l, which start at a place; bs starts at j
  abbrev Goes : List ℕ → Type 0
  Goes bs = (l : List ℕ) (p : Part) (room at j : ℕ) → j ≡ at + length l → tape_of p room at (lines_from l bs) ≡ next r k t → Behind j bs k t

  module _ (b : ℕ) (bs : List ℕ) (ih : Goes bs) (l : List ℕ) (p : Part) (room at j : ℕ) (place : j ≡ at + length l) where
    abbrev from : Part → ℕ → Tape
    from q m = tape_of q m (at + (length l + 1)) (lines_from [] bs)

    abbrev judges : Judged → Tape
    judges v = by_judged v (λ q. from q (room - (length l + 1))) (λ q. next q (at + (length l + 1)) (from part.Op 64)) (trace at)

    by_judged_lem : (v : Judged) → judges v ≡ next r k t → Behind j (b ∷ bs) k t
    by_judged_lem (judged.Next q) e = on b bs j (ih [] q _ (at + (length l + 1)) (j + 1) (omega arith) e)
    by_judged_lem (judged.Whole q) e =
        let here : k ≡ at + (length l + 1) = cc in
        let one : k - j ≡ suc 0 = omega arith in
        let rest : t ≡ tape_of part.Op 64 k (lines_from [] bs) = cc in
        record { goes = rw one rest; past = omega arith; within = omega arith }
    by_judged_lem judged.Bad e =
        let z : ◌≡◌ {A = ℕ} 0 1 = cc in
        absurd (omega arith)

    by_room : (c : Bool) → cond c (judges (judge_of p l)) (trace at) ≡ next r k t → Behind j (b ∷ bs) k t
    by_room true e = by_judged_lem (judge_of p l) e
    by_room false e =
        let z : ◌≡◌ {A = ℕ} 0 1 = cc in
        absurd (omega arith)

    by_byte : (c : Bool) → tape_of p room at (cond c (line l (lines_from [] bs)) (lines_from (l ++ b ∷ []) bs)) ≡ next r k t → Behind j (b ∷ bs) k t
    unfolding tape_of
    by_byte true e = by_room (ltb (length l) room) e
    by_byte false e = on b bs j (ih (l ++ b ∷ []) p room at (j + 1) (omega (arith, length-append l (b ∷ []))) e)

  behind : (bs : List ℕ) → Goes bs
  unfolding tape_of lines_from
  behind [] l p room at j place e = absurd (omega (arith, none p at l (leb (length l) room) e))
  behind (b ∷ bs) l p room at j place e = by_byte b bs (behind bs) l p room at j place (eqb b 10) e

-- ---- what `record_at` answers says how the recording goes on at a place

abbrev after : Tape → Tape
after (next r k t) = t
after over = over
after unfinished = unfinished
after (trace at) = trace at

is_next : (t : Tape) (r : Record) (k : ℕ) → first_of t ≡ read.Record r k → t ≡ next r k (after t)
is_next (next q j t) r k e = cc
is_next over r k e = cc
is_next unfinished r k e = cc
is_next (trace at) r k e = cc

pub is_over : (t : Tape) → first_of t ≡ read.End → t ≡ over
is_over (next q j t) e = cc
is_over over e = refl
is_over unfinished e = cc
is_over (trace at) e = cc

pub is_unfinished : (t : Tape) → first_of t ≡ read.Unfinished → t ≡ unfinished
is_unfinished (next q j t) e = cc
is_unfinished over e = cc
is_unfinished unfinished e = refl
is_unfinished (trace at) e = cc

pub is_bad : (t : Tape) (at : ℕ) → first_of t ≡ read.Bad at → t ≡ trace at
is_bad (next q j t) at e = cc
is_bad over at e = cc
is_bad unfinished at e = cc
is_bad (trace j) at e = cc

-- a record stands at a place: behind it the recording goes on at a later place of it
pub record There (s : List ℕ) (at : ℕ) (r : Record) (k : ℕ) : Type 0 where
  pub is : tape_at s at ≡ next r k (tape_at s k)
  pub past : at < k
  pub within : k ≤ length s

pub there : (s : List ℕ) (at : ℕ) (r : Record) (k : ℕ) → read.Record r k ≡ record_at s at → There s at r k
there s at r k e =
    let w : tape_at s at ≡ next r k (after (tape_at s at)) = is_next (tape_at s at) r k (sym e) in
    let d : Behind at (drop at s) k (after (tape_at s at)) = behind r k (after (tape_at s at)) (drop at s) [] part.Op 64 at at (omega arith) w in
    let place : at + (k - at) ≡ k = omega (arith, d.past) in
    let on : after (tape_at s at) ≡ tape_at s k = d.goes ∙ rw (drop-drop, place) in
    record { is = w ∙ ap (next r k) on; past = d.past; within = omega (arith, d.within, d.past, length-drop at s) }
