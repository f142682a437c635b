-- The reports of all clocks that live: each slot's lines stand behind those of the slots below it, 16 longest reports
-- fit into any buffer that is not refused, and what the lines make up is the text. `two_of_three` stands for a reader.
-- RULES, reports. Assumes nothing.
use Prim.Native.Nat.{ℕ, ◌+◌, ◌*◌, ◌<◌, ◌≤◌}
use native.Mathlib.Numerals.{add-one}
use native.Mathlib.Omega.{arith}
use mathlib.Core.Path.{◌≡◌, refl, sym, ap, ◌∙◌}
use mathlib.Core.Bool.{Bool, true, false, cond}
use mathlib.Core.List.{List, [], ◌∷◌, ◌++◌, append-nil, append_assoc}
use lib.ListN.{length, get_or, drop, length-append}
use lib.Seq.{drop-cons, drop-length}
use borrow.Author.Tests.{lt-ltb, le-ltb}
use Rattle.digits.specs.Puts.{Put, place, put_all, whole}
use Rattle.digits.specs.Outs.{placed}
use Rattle.digits.specs.declared.Out.{Out}
use Rattle.digits.proofs.Outs.{by_end}
use Rattle.digits.proofs.Pieces.{after}
use Rattle.std.specs.Prelude.{Ok, Err}
use Rattle.judge.specs.Judge.{number_of}
use Rattle.judge.specs.declared.Refusal.TheVariants.{Buffer}
use Rattle.ids.specs.Keys.{taken_at, left_at}
use Rattle.ids.specs.declared.Key.{Key}
use Rattle.clock.specs.declared.Clock.{Clock}
use Rattle.clock_table.specs.declared.Clocks.{Clocks}
use Rattle.report.specs.Reports.{clock_lines, report_text, reported, at_start}
use Rattle.report.specs.AllReports.{id_in, living_from, slot_lines, all_reports_of}
use Rattle.report.proofs.Longest.{id_of}
use Rattle.report.proofs.Fits.{at_start_lem}

-- ---- lines, and the text that they make up

whole_append : (a b : List (List ℕ)) → whole (a ++ b) ≡ whole a ++ whole b
whole_append [] b = refl
whole_append (t ∷ a) b = rw (whole_append a b, append_assoc t (whole a) (whole b))

-- the lines of the slots, the first key being slot i's
abbrev lines_from : ℕ → List Key → List Clock → List (List ℕ)
lines_from i [] cs = []
lines_from i (k ∷ ks) [] = []
lines_from i (k ∷ ks) (c ∷ cs) = slot_lines i k c ++ lines_from (i + 1) ks cs

slot_text : (b : Bool) (texts : List (List ℕ)) → whole (cond b texts []) ≡ cond b (whole texts) []
slot_text true texts = refl
slot_text false texts = refl

text : (i : ℕ) (ks : List Key) (cs : List Clock) → whole (lines_from i ks cs) ≡ living_from i ks cs
unfolding living_from
text i [] cs = refl
text i (k ∷ ks) [] = refl
text i (k ∷ ks) (c ∷ cs) =
    whole_append (slot_lines i k c) (lines_from (i + 1) ks cs)
    ∙ rw (slot_text k.used (clock_lines (id_in i k) c), text (i + 1) ks cs)

-- three slots, of which the second was removed at generation 7: the first one's report, and the third one's behind it
pub two_of_three :
    (a b c : Clock) → living_from 0 (taken_at 1 ∷ left_at 7 ∷ taken_at 4 ∷ []) (a ∷ b ∷ c ∷ []) ≡ report_text (id_of 0 1) a ++ report_text (id_of 2 4) c
unfolding living_from
two_of_three a b c = ap (λ (l : List ℕ). report_text (id_of 0 1) a ++ l) (append-nil (report_text (id_of 2 4) c))

-- ---- slot by slot

-- the slots from i on
abbrev rest : Clocks → ℕ → List (List ℕ)
rest t i = lines_from i (drop i t.keys) (drop i t.clocks)

-- q, with the lines of the slots that are left behind it, is p with the lines of all of them; and the slots so far have
-- no more than 96 bytes each
pub record Left (t : Clocks) (p q : Put) (i : ℕ) : Type 0 where
  pub puts : put_all q (rest t i) ≡ put_all p (rest t 0)
  pub short : length (whole (rest t 0)) ≤ 96 * i + length (whole (rest t i))

pub all_left : (t : Clocks) (p : Put) → Left t p p 0
all_left t p = record { puts = refl; short = omega arith }

module _ (t : Clocks) (i : ℕ) (k : Key) (c : Clock) (hk : i < length t.keys) (hc : i < length t.clocks) where
  abbrev one : List (List ℕ)
  one = slot_lines i (get_or t.keys i k) (get_or t.clocks i c)

  here : rest t i ≡ one ++ rest t (i + 1)
  here = rw (drop-cons t.keys i k hk, drop-cons t.clocks i c hc, add-one i)

  pub slot_put : (p q : Put) {o : Put} → length (whole one) ≤ 96 → o ≡ put_all q one → Left t p q i → Left t p o (i + 1)
  slot_put p q l e left = record {
    puts = rw e (sym (after q one (rest t (i + 1))) ∙ ap (put_all q) (sym here) ∙ left.puts);
    short = omega (
      arith,
      l,
      left.short,
      ap (λ (s : List (List ℕ)). length (whole s)) here,
      ap length (whole_append one (rest t (i + 1))),
      length-append (whole one) (whole (rest t (i + 1))),
    );
  }

nothing : (t : Clocks) (i : ℕ) → length t.keys ≡ i → rest t i ≡ []
nothing t i h = rw (← h, drop-length t.keys)

-- ---- the buffer

module _ (t : Clocks) (out : List ℕ) where
  -- BUFFER
  pub too_small_for_all : length out < 1536 → reported (Err Buffer) out ≡ all_reports_of t out
  unfolding all_reports_of number_of
  too_small_for_all h = rw (lt-ltb (length out) 1536 h)

  pub all_written :
      {o : List ℕ} {n : ℕ} (i : ℕ) (q : Out) → 1536 ≤ length out → length t.keys ≡ i → i ≤ 16
      → o ≡ q.bytes.now → n ≡ q.at → Left t (place out 0) (placed q) i
      → reported (Ok n) o ≡ all_reports_of t out
  unfolding all_reports_of number_of
  all_written i q h k l e f left =
      at_start_lem (rest t 0) out (omega (arith, left.short, ap (λ (s : List (List ℕ)). length (whole s)) (nothing t i k)))
      (by_end q e f ∙ sym (ap (put_all (placed q)) (nothing t i k)) ∙ left.puts)
      ∙ ap (λ (s : List ℕ). at_start s out) (text 0 t.keys t.clocks)
      ∙ rw (le-ltb (length out) 1536 h)
