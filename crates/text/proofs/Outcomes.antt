-- Any two outcomes that a statement allows coincide (`Rattle.doubles.proofs.Outcomes` has the law). Of `part` and
-- `Words.next`, which answer a part of the caller's slice, the bytes coincide. RULES, one-outcome. Assumes nothing.
use mathlib.Core.Path.{◌≡◌, sym, ap, ◌∙◌}
use contract.Lifetimes.{Lfts}
use denote.Triple.Clauses.{AtExit}
use borrow.Fn.Kinds.{Dens, ended_of, res_t}
use denote.RattleType.{RattleType}
use denote.Param.Laws.{Laws}
use Rattle.doubles.proofs.Outcomes.{One, Same, equal}
use Rattle.text.proofs.next_word.Reads as next_word
use Rattle.text.proofs.next_word.Kinds as next-word-kinds
use Rattle.text.proofs.part.Reads as part
use Rattle.text.proofs.part.Kinds as part-kinds
use Rattle.text.proofs.hex16.Reads as hex16
use Rattle.text.proofs.hex16.Kinds as hex16-kinds
use Rattle.text.proofs.decimal.Reads as decimal
use Rattle.text.proofs.decimal.Kinds as decimal-kinds
use Rattle.text.proofs.words.Words.new.Reads as new
use Rattle.text.proofs.words.Words.new.Kinds as new-kinds
use Rattle.text.proofs.words.Words.next.Reads as next
use Rattle.text.proofs.words.Words.next.Kinds as next-kinds
use Rattle.text.proofs.words.Words.stop.Reads as stop
use Rattle.text.proofs.words.Words.stop.Kinds as stop-kinds

pub one_next_word : One 1 next-word-kinds.ps next-word-kinds.r next_word.Post
one_next_word κs a x y s t = equal

pub one_hex16 : One 1 hex16-kinds.ps hex16-kinds.r hex16.Post
one_hex16 κs a x y s t = equal

pub one_decimal : One 1 decimal-kinds.ps decimal-kinds.r decimal.Post
one_decimal κs a x y s t = equal

pub one_part :
    (κs : Lfts 1) (a : Dens κs part-kinds.ps) (x y : (res_t part-kinds.r κs).Denot) (s t : AtExit (ended_of 1 part-kinds.ps part-kinds.r) κs)
    → part.Post κs a x s → part.Post κs a y t → x.now ≡ y.now
one_part κs a x y s t = equal

-- ---- where words are read, those that are left coincide too

-- two answers with what is left, both the pair that a statement names
pub same : {A B : Type 0} {v : A × B} {x y : A} {o u : B} → ◌≡◌ {A = A × B} (x, o) v → ◌≡◌ {A = A × B} (y, u) v → (x ≡ y) × (o ≡ u)
same {A} {B} p q = (ap (λ (p : A × B). p.0) (p ∙ sym q), ap (λ (p : A × B). p.1) (p ∙ sym q))

pub one_new : One 1 new-kinds.ps new-kinds.r new.Post
one_new κs a x y s t = equal

pub one_next :
    (κs : Lfts 2) (a : Dens κs next-kinds.ps) (x y : (res_t next-kinds.r κs).Denot) (s t : AtExit (ended_of 2 next-kinds.ps next-kinds.r) κs)
    → next.Post κs a x s → next.Post κs a y t → (x.now ≡ y.now) × (s.0.now ≡ t.0.now)
one_next κs a x y s t p q = (equal p.0 q.0, equal p.1 q.1)

pub one_stop : (T : RattleType) (L : Laws T) → Same 3 (stop-kinds.ps T L) (stop-kinds.r T L) (stop.Post T L) (λ κs s. s.0.now)
one_stop T L κs a x y s t p q = (equal p.0 q.0, equal p.1 q.1)
