-- What lines say, by the first of them, whose length was counted. Assumes nothing.
use Prim.Native.Nat.{ℕ, zero, suc, ◌+◌, ◌-◌, ◌<◌, ◌≤◌, min}
use native.Mathlib.Omega.{arith}
use native.Mathlib.Numerals.{add-one}
use mathlib.Core.Path.{◌≡◌, refl}
use mathlib.Core.Bool.{Bool, true, false, not}
use mathlib.Core.List.{List, [], ◌∷◌, ◌++◌}
use borrow.Author.Tests.{lt-ltb, le-ltb, le-leb, lt-leb, eqb-true, eq-eqb, ne_eqb}
use lib.Dec.{eqb}
use lib.ListN.{length, take, drop, get_or, length-append, drop_of_length-le}
use lib.Seq.{length-take-le, take_all, take-suc, drop-cons, drop-drop}
use Rattle.std.specs.List.{prefix_len}
use Rattle.std.proofs.lemmas.List.{get_or-take, length-take}
use Rattle.std.proofs.lemmas.List.Sums.{prefix_len-le-length, prefix_len_passes, prefix_len_stops}
use Rattle.record.specs.Records.{is_first, judge_of}
use Rattle.text.proofs.Bytes.{onward}
use Rattle.record.specs.declared.Part.{Part}
use Rattle.record.specs.declared.Part.TheVariants as part
use Rattle.record.specs.declared.Judged.{Judged}
use Rattle.recording.specs.Recordings.{lines_from, Tape, next, unfinished, trace, lastly, by_judged, tape_of}
use Rattle.recording.specs.Lengths.{InLine, LineLength}

-- ---- counting

module _ (most : ℕ) (bs : List ℕ) where
  none : InLine most bs 0
  none = record { small = omega arith; inside = omega arith; begun = refl }

  one_more : (n : ℕ) → InLine most bs n → n < most → n < length bs → (get_or bs n 0 ≡ 10 → ⊥) → InLine most bs (n + 1)
  unfolding lines_from
  one_more n h l m e = record { small = omega arith; inside = omega arith; begun = rw (add-one, take-suc bs n 0 m) (rw (drop-cons bs n 0 m, ne_eqb (get_or bs n 0) 10 e) at h.begun) }

abbrev pub no_lf : ℕ → Bool
no_lf b = not (eqb b 10)

lf : (b : ℕ) → no_lf b ≡ false → b ≡ 10
lf b h = eqb-true b 10 (by (eqb b 10) h)
  where
    by : (t : Bool) → not t ≡ false → t ≡ true
    by true e = refl
    by false e = cc

other : (b : ℕ) → no_lf b ≡ true → b ≡ 10 → ⊥
other b h e = by (eqb b 10) (eq-eqb b 10 e) h
  where
    by : (t : Bool) → t ≡ true → not t ≡ true → ⊥
    by true f g = cc
    by false f g = cc

-- the bytes before the first LF, among so many
module _ (most : ℕ) (bs : List ℕ) where
  abbrev few : List ℕ
  few = take most bs

  so_far : (k : ℕ) → k ≤ prefix_len no_lf few → InLine most bs k
  so_far zero h = none most bs
  so_far (suc k) h =
      let long : prefix_len no_lf few ≤ min most (length bs) = omega (arith, prefix_len-le-length no_lf few, length-take most bs) in
      let inside : k < most = omega arith in
      let here : no_lf (get_or bs k 0) ≡ true = rw (get_or-take most bs k 0 inside) at (prefix_len_passes no_lf few k 0 (omega arith)) in
      rw (← add-one k) (one_more most bs k (so_far k (omega arith)) (omega arith) (omega arith) (other (get_or bs k 0) here))

  pub counted : (n : ℕ) → n ≡ prefix_len no_lf few → LineLength most bs n
  counted n e = record { in_line = so_far n (omega arith); ended = λ m l. lf (get_or bs n 0) (stops n e m l) }
    where
      stops : (n : ℕ) → n ≡ prefix_len no_lf few → n < most → n < length bs → no_lf (get_or bs n 0) ≡ false
      stops n e m l = rw (← get_or-take most bs n 0 m, e) (prefix_len_stops no_lf few 0 (omega (arith, length-take most bs)))

-- ---- what is left of bytes at a place, as the code takes it

abbrev pub left : List ℕ → ℕ → List ℕ
left s i = take (length s - i) (drop i s)

pub left_on : (s : List ℕ) (i n : ℕ) → left s (i + n) ≡ drop n (left s i)
left_on s i n = rw (onward s i, onward s (i + n), drop-drop)

-- ---- a line for which the record has no room is bad, whatever follows

module _ (p : Part) (room at : ℕ) where
  abbrev IsBad : List ℕ → List ℕ → Type 0
  IsBad bs l = tape_of p room at (lines_from l bs) ≡ trace at

  one_byte : (b : ℕ) (bs l : List ℕ) → room ≤ length l → ((k : List ℕ) → room < length k → IsBad bs k) → IsBad (b ∷ bs) l
  unfolding tape_of lines_from
  one_byte b bs l h ih = by (eqb b 10) refl
    where
      by : (t : Bool) → eqb b 10 ≡ t → IsBad (b ∷ bs) l
      by true e = rw (e, le-ltb (length l) room h)
      by false e = rw e (ih (l ++ b ∷ []) (omega (arith, length-append l (b ∷ []))))

  too_long : (bs l : List ℕ) → room < length l → IsBad bs l
  unfolding tape_of lines_from
  too_long [] l h = rw (lt-leb (length l) room h)
  too_long (b ∷ bs) l h = one_byte b bs l (omega arith) (too_long bs)

-- ---- the first line of bytes, of which n bytes were counted

module _ (p : Part) (room at : ℕ) (bs : List ℕ) (n : ℕ) (h : LineLength room bs n) where
  abbrev says : Tape
  says = tape_of p room at (lines_from [] bs)

  size : length (take n bs) ≡ n
  size = length-take-le n bs h.in_line.inside

  -- the bytes end inside a record
  pub ends_inside : length bs ≤ n → (length bs ≡ 0 → is_first p ≡ false) → says ≡ unfinished
  unfolding tape_of lines_from
  ends_inside l f = rw (← h.in_line.begun, drop_of_length-le bs l, size, le-leb n room h.in_line.small, take_all n bs l) (by bs f)
    where
      by : (l : List ℕ) → (length l ≡ 0 → is_first p ≡ false) → lastly p l ≡ unfinished
      by [] g = rw (g refl)
      by (b ∷ l) g = refl

  -- a byte more is there than the record has room for
  pub no_room_lem : room ≤ n → n < length bs → says ≡ trace at
  no_room_lem l m =
      rw (← h.in_line.begun, drop-cons bs n 0 m)
      (one_byte p room at (get_or bs n 0) (drop (suc n) bs) (take n bs) (omega (arith, size)) (too_long p room at (drop (suc n) bs)))

  -- the line is whole, and v is what it was judged
  pub judges :
      n < room → n < length bs → (v : Judged) → v ≡ judge_of p (take n bs)
      → says
      ≡ by_judged v
      (λ q. tape_of q (room - (n + 1)) (at + (n + 1)) (lines_from [] (drop (n + 1) bs)))
      (λ r. next r (at + (n + 1)) (tape_of part.Op 64 (at + (n + 1)) (lines_from [] (drop (n + 1) bs))))
      (trace at)
  unfolding tape_of lines_from
  judges l m v told = rw (told, ← h.in_line.begun, drop-cons bs n 0 m, eq-eqb _ 10 (h.ended l m), size, lt-ltb n room l, add-one n)
