-- What the words of a line and the bytes of a word give. Assumes nothing.
use Prim.Native.Nat.{ℕ, suc, ◌+◌, ◌<◌, ◌≤◌}
use native.Mathlib.Omega.{arith}
use mathlib.Core.Path.{◌≡◌, refl, ap, ◌∙◌}
use mathlib.Core.Bool.{Bool, true, false, cond}
use mathlib.Core.List.{List, [], ◌∷◌}
use borrow.Author.Tests.{eq-eqb, ne_eqb, lt-ltb}
use lib.Dec.{eqb, ltb}
use Rattle.std.specs.Prelude.{Option, None, Some, position}
use Rattle.std.specs.List.{prefix_len}
use Rattle.text.proofs.Runs.{run_is}
use native.Mathlib.Decide.{dec_lt}
use lib.ListN.{length, take, drop, drop_of_length-le}
use lib.Seq.{drop-drop}
use Rattle.text.specs.Words.{run, blanks, word_at}
use Rattle.text.specs.declared.Word.{Word}
use Rattle.text.specs.Numbers.{decimal_of}
use Rattle.grammar.specs.Grammar.{first_word, all_blanks, decimal32_of, no_colon, id_of, id_in}

-- what holds of the word that the code found holds of the first word
pub first : {A : Type 0} (s : List ℕ) (at : ℕ) (f : Word → A) {w : Word} {x : A} → w ≡ word_at s at → x ≡ f w → x ≡ first_word s at f
unfolding first_word
first s at f e p = p ∙ ap f e

-- ---- no word is left exactly where nothing but blanks is

-- how many bytes the word behind the blanks at the front has
abbrev size : List ℕ → ℕ
size l = run (blanks false) (drop (run (blanks true) l) l)

no_word : (l : List ℕ) (n : ℕ) → eqb n (n + size l) ≡ all_blanks l
unfolding run all_blanks
no_word [] n = eq-eqb n (n + 0) (omega arith)
no_word (b ∷ bs) n = by (eqb b 0x20) refl (no_word bs n)
  where
    by : (t : Bool) → eqb b 0x20 ≡ t → eqb n (n + size bs) ≡ all_blanks bs → eqb n (n + size (b ∷ bs)) ≡ all_blanks (b ∷ bs)
    by true e h = rw e h
    by false e h = rw (e, e) (ne_eqb n (n + suc (run (blanks false) bs)) (λ e. omega arith))

pub blanks_left : (s : List ℕ) (at : ℕ) → eqb (word_at s at).from (word_at s at).to ≡ all_blanks (drop at s)
blanks_left s at = rw (← (drop-drop (run (blanks true) (drop at s)) at s)) (no_word (drop at s) (word_at s at).from)

-- ---- an id has a colon

unread : (slot : Option ℕ) (to : ℕ) → ◌≡◌ {A = Option (ℕ × ℕ × ℕ)} None (id_of slot None to)
unread (Some n) to = refl
unread None to = refl

-- what `position` answers of the first colon
abbrev pub is_colon : ℕ → Bool
is_colon b = eqb b 0x3a

pub found_colon : (p : List ℕ) (i : ℕ) → position is_colon p ≡ Some i → i ≡ run no_colon p
found_colon p i e = by (ltb (prefix_len no_colon p) (length p)) e ∙ run_is no_colon p
  where
    by : (t : Bool) → cond t (Some (prefix_len no_colon p)) None ≡ Some i → i ≡ prefix_len no_colon p
    by true e = cc
    by false e = cc

colon_missing : (p : List ℕ) → position is_colon p ≡ None → length p ≤ run no_colon p
colon_missing p e = rw (← run_is no_colon p) (by (dec_lt (prefix_len no_colon p) (length p)))
  where
    by : Dec (prefix_len no_colon p < length p) → length p ≤ prefix_len no_colon p
    by (yes a) = absurd (some (rw (lt-ltb _ _ a) at e))
      where
        some : Some (prefix_len no_colon p) ≡ None → ⊥
        some e = cc
    by (no a) = omega arith

-- so there is no id where there is no colon
pub no_colon_lem : (p : List ℕ) (to : ℕ) → position is_colon p ≡ None → None ≡ id_in p to
unfolding id_in decimal32_of decimal_of
no_colon_lem p to e = rw (drop_of_length-le p {i = run no_colon p + 1} (omega (arith, colon_missing p e))) (unread (decimal32_of (take (run no_colon p) p)) to)
