-- The first number of a list whose condition holds: each is the first exactly where its condition holds and none before
-- it does. And the order, taken apart: RULES, order. Assumes nothing.
use Prim.Native.Nat.{ℕ}
use mathlib.Core.Path.{◌≡◌, refl, sym, ◌∙◌}
use mathlib.Core.Bool.{Bool, true, false, ◌||◌, cond, false≢true}
use mathlib.Core.Logic.{◌↔◌}
use mathlib.Core.List.{List, [], ◌∷◌}
use lib.Dec.{eqb}
use borrow.Author.Tests.{eqb-true, eqb-false}
use Rattle.judge.specs.Answer.{accepted, refused, number_told}
use Rattle.judge.specs.Judge.{Conditions, of_id, of_turn, number_of, first_fault, answered}
use Rattle.judge.specs.Numbers.{«GONE», TOO_FAR, TICKS_FULL, NEVER_ISSUED}
use Rattle.judge.proofs.Judged.{arguments_first}
use Rattle.judge.specs.declared.Faults.{Faults}
use Rattle.laws.specs.SoundStation.{All}
use Rattle.demands.specs.Order.{order, holds, first_in, before, among}

-- ---- any list

module _ (f : ℕ → Bool) where
  -- a number that is given holds
  first_holds : (ns : List ℕ) (n : ℕ) → (n ≡ 0 → ⊥) → first_in ns f ≡ n → f n ≡ true
  unfolding first_in
  first_holds [] n z e = absurd (z (sym e))
  first_holds (m ∷ ms) n z e = go (f m) refl e (first_holds ms n z)
    where
      go : (b : Bool) → f m ≡ b → cond b m (first_in ms f) ≡ n → (first_in ms f ≡ n → f n ≡ true) → f n ≡ true
      go true h e ih = rw e at h
      go false h e ih = ih e

  pub first_exactly : (n : ℕ) → (n ≡ 0 → ⊥) → (ns : List ℕ) → among n ns ≡ true → (first_in ns f ≡ n) ↔ ((f n ≡ true) × All (λ m. f m ≡ false) (before n ns))
  unfolding first_in before among
  first_exactly n z [] a = absurd (false≢true a)
  first_exactly n z (m ∷ ms) a = go (eqb m n) refl a (f m) refl (first_exactly n z ms) (first_holds ms n z)
    where
      go :
          (b : Bool) → eqb m n ≡ b → (b || among n ms) ≡ true → (h : Bool) → f m ≡ h
          → (among n ms ≡ true → (first_in ms f ≡ n) ↔ ((f n ≡ true) × All (λ k. f k ≡ false) (before n ms))) → (first_in ms f ≡ n → f n ≡ true)
          → (cond h m (first_in ms f) ≡ n) ↔ ((f n ≡ true) × All (λ k. f k ≡ false) (cond b [] (m ∷ before n ms)))
      go true e a true h ih fh = (λ q. (rw (eqb-true m n e) at h, tt), λ q. eqb-true m n e)
      go true e a false h ih fh = (λ q. (fh q, tt), λ q. absurd (false≢true (sym (rw (eqb-true m n e) at h) ∙ q.0)))
      go false e a true h ih fh = (λ q. absurd (eqb-false m n e q), λ q. absurd (false≢true (sym q.1.0 ∙ h)))
      go false e a false h ih fh = let r = ih a in (λ q. let s = r.0 q in (s.0, (h, s.1)), λ q. r.1 (q.0, q.1.1))

  pub first_none : (ns : List ℕ) → among 0 ns ≡ false → (first_in ns f ≡ 0) ↔ All (λ m. f m ≡ false) ns
  unfolding first_in among
  first_none [] a = (λ q. tt, λ q. refl)
  first_none (m ∷ ms) a = go (eqb m 0) refl a (f m) refl (first_none ms)
    where
      go :
          (b : Bool) → eqb m 0 ≡ b → (b || among 0 ms) ≡ false → (h : Bool) → f m ≡ h → (among 0 ms ≡ false → (first_in ms f ≡ 0) ↔ All (λ k. f k ≡ false) ms)
          → (cond h m (first_in ms f) ≡ 0) ↔ ((f m ≡ false) × All (λ k. f k ≡ false) ms)
      go true e a v h ih = absurd (false≢true (sym a))
      go false e a true h ih = (λ q. absurd (eqb-false m 0 e q), λ q. absurd (false≢true (sym q.0 ∙ h)))
      go false e a false h ih = let r = ih a in (λ q. (h, r.0 q), λ q. r.1 q.1)

-- ---- the order

-- the number that the list gives first is the call's
pub all_given : (c : Conditions) → first_in order (holds c) ≡ number_of c
unfolding first_in number_of
all_given c = refl

-- a call that is judged by a number has that number
pub judged_number : {R : Type 0} (number : R → ℕ) (x y : R) (n : ℕ) → number x ≡ 0 → number y ≡ n → number (cond (eqb n 0) x y) ≡ n
judged_number number x y n p q = go (eqb n 0) (eqb-true n 0)
  where
    go : (b : Bool) → (b ≡ true → n ≡ 0) → number (cond b x y) ≡ n
    go true h = p ∙ sym (h refl)
    go false h = q

-- an answer that is judged has the number of what is wrong
pub told_given : {A : Type 0} (c : Conditions) (x : A) → number_told (answered c x) ≡ first_in order (holds c)
told_given c x = judged_number number_told (accepted x) (refused (number_of c)) (number_of c) refl refl ∙ sym (all_given c)

-- an id, and the faults of what comes with it
pub id_given : (g n : Bool) (f : Faults) → first_in order (holds (of_id g n f)) ≡ cond g «GONE» (cond n NEVER_ISSUED (first_fault f))
unfolding first_in first_fault
id_given g n f = refl

-- a clock's turn, and a frame
pub turn_given : (f : Faults) (far full : Bool) → first_in order (holds (of_turn f far full)) ≡ cond (eqb (first_fault f) 0) (cond far TOO_FAR (cond full TICKS_FULL 0)) (first_fault f)
unfolding number_of
turn_given f far full = all_given (of_turn f far full) ∙ arguments_first false far full false false f
