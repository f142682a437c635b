-- A call by an id is refused by the id's own number, or acts on the entry that lives under it, where no key is without
-- an entry; and a table has room, or every slot is occupied or retired. RULES, gone, never-issued and no-room. Assumes
-- nothing.
use Prim.Native.Nat.{ℕ, zero, suc, ◌+◌, ◌≤◌, ◌<◌}
use native.Mathlib.Nat.{not-suc-le-zero, le_of_suc-le-suc}
use native.Mathlib.Decide.{dec_le}
use native.Mathlib.Omega.{arith}
use mathlib.Core.Path.{◌≡◌, refl, sym, ap, ◌∙◌}
use mathlib.Core.Bool.{Bool, true, false, not, ◌&&◌, ◌||◌, cond, true≢false}
use mathlib.Core.List.{List, [], ◌∷◌}
use lib.ListN.{length}
use lib.Dec.{ltb, eqb}
use borrow.Author.Tests.{eqb-true, le-leb, lt-leb, le-ltb, lt-ltb, ne_eqb}
use Rattle.ids.specs.Keys.{Place, place, room_at, free_of, lives_in, generation_at, was_given, find_of}
use Rattle.ids.specs.Lists.{read_at}
use Rattle.ids.specs.Tables.{Table, Added, on_entry, refused_add, placed_in, added_in, added_to}
use Rattle.ids.specs.declared.Key.{Key}
use Rattle.judge.specs.Answer.{Answer, accepted, refused, is_refused, number_told, on_accepted}
use Rattle.judge.specs.Judge.{Conditions, of_add, number_of}
use Rattle.judge.specs.Numbers.{«GONE», NEVER_ISSUED}
use Rattle.judge.specs.declared.Faults.{Faults}
use Rattle.judge.proofs.Judged.{nothing_wrong}
use Rattle.ids.proofs.Places.{read_past, lives_inside, missing_number, find_living, find_missing}
use Rattle.laws.proofs.lemmas.Entries.{Holds, holds_read}
use Rattle.demands.specs.Conditions.{ungiven, gone_in, never_in, every_taken}
use Rattle.demands.specs.Entries.{Sized}
use Rattle.demands.specs.Order.{order, holds, first_in}
use Rattle.demands.proofs.lemmas.Asked.{judged_number, all_given}

-- every slot of a list holds something
inside_holds : {A : Type 0} (l : List A) (i : ℕ) → i < length l → (x : A) × Holds l i x
unfolding read_at
inside_holds [] i h = absurd (not-suc-le-zero h)
inside_holds (x ∷ l) zero h = (x, refl)
inside_holds (x ∷ l) (suc i) h = inside_holds l i (le_of_suc-le-suc h)

-- ---- an id

module _ (ks : List Key) (i g : ℕ) where
  -- the number by the conditions of the id, or else n
  abbrev pub number_by_id : ℕ → ℕ
  number_by_id n = cond (gone_in ks i g) «GONE» (cond (never_in ks i g) NEVER_ISSUED n)

  -- where the table has no more than 16 slots, an id is ungiven exactly where its slot has not given it out
  pub ungiven_is : length ks ≤ 16 → not (ungiven ks i g) ≡ was_given (generation_at ks i) g
  ungiven_is s = go g (dec_le g (generation_at ks i)) (dec_le 16 i)
    where
      inside : (h : ℕ) → 16 ≤ i → suc h ≤ generation_at ks i → ⊥
      inside h o p = omega (arith, p, read_past 0 (λ (k : Key). k.generation) ks i (omega (arith, s, o)))

      go : (g : ℕ) → Dec (g ≤ generation_at ks i) → Dec (16 ≤ i) → not (ungiven ks i g) ≡ was_given (generation_at ks i) g
      go zero d o = refl
      go (suc h) (yes p) (yes o) = absurd (inside h o p)
      go (suc h) (yes p) (no n) =
          rw (ne_eqb (suc h) 0 (λ e. omega arith), le-leb 1 (suc h) (omega arith), le-leb (suc h) (generation_at ks i) p, le-ltb (generation_at ks i) (suc h) p, lt-ltb i 16 (omega (arith, n)))
      go (suc h) (no n) o =
          rw (ne_eqb (suc h) 0 (λ e. omega arith), le-leb 1 (suc h) (omega arith), lt-leb (suc h) (generation_at ks i) (omega (arith, n)), lt-ltb (generation_at ks i) (suc h) (omega (arith, n)))

  -- an id that does not live decides, whatever n comes behind it
  by_missing : length ks ≤ 16 → lives_in ks i g ≡ false → (n : ℕ) → number_by_id n ≡ missing_number ks i g
  by_missing s l n = rw l (go (ungiven ks i g) (ungiven_is s))
    where
      go : (b : Bool) → not b ≡ was_given (generation_at ks i) g → cond (not b) «GONE» (cond b NEVER_ISSUED n) ≡ missing_number ks i g
      go true e = rw (← e)
      go false e = rw (← e)

  pub by_living : lives_in ks i g ≡ true → (n : ℕ) → number_by_id n ≡ n
  by_living l n = rw l

-- the number of a call by an id: the id's own where nothing lives under it, else that of what the call makes of the
-- entry
module _ {E : Type 0} (ks : List Key) (es : List E) (w : Sized ks es) (i g : ℕ) where
  module _ {R : Type 0} (number : R → ℕ) (none : ℕ → R) (told : (m : ℕ) → number (none m) ≡ m) where
    pub entry_number :
        (f : ℕ → E → R) (n : ℕ) → (lives_in ks i g ≡ true → (x : E) → Holds es i x → number (f i x) ≡ n)
        → number (on_entry none es (find_of ks i g) f) ≡ number_by_id ks i g n
    entry_number f n h = go (lives_in ks i g) refl
      where
        on : Answer ℕ → ℕ
        on a = number (on_entry none es a f)

        go : (b : Bool) → lives_in ks i g ≡ b → on (find_of ks i g) ≡ number_by_id ks i g n
        go true l =
            let k : i < length ks = lives_inside ks i g l in
            let e = inside_holds es i (omega (arith, k, w.filled)) in
            ap on (find_living ks i g l) ∙ ap number (holds_read (none NEVER_ISSUED) (f i) es i e.0 e.1) ∙ h l e.0 e.1 ∙ sym (by_living ks i g l n)
        go false l = ap on (find_missing ks i g l) ∙ told (missing_number ks i g) ∙ sym (by_missing ks i g w.most l n)

  -- a read is refused by the id alone
  pub read_number : {A B : Type 0} (f : E → A) (k : A → B) → number_told (on_accepted k (on_entry refused es (find_of ks i g) (λ i x. accepted (f x)))) ≡ number_by_id ks i g 0
  read_number {A} f k = entry_number (λ (a : Answer A). number_told (on_accepted k a)) refused (λ m. refl) (λ i x. accepted (f x)) 0 (λ l x h. refl)

-- ---- room

-- a search is refused exactly where every slot is occupied or retired
pub room_is : (ks : List Key) (n : ℕ) → is_refused (free_of n ks) ≡ every_taken ks
unfolding free_of every_taken
room_is [] n = refl
room_is (k ∷ ks) n = go k.used (ltb k.generation 4294967295) (room_is ks (n + 1))
  where
    go : (u b : Bool) → is_refused (free_of (n + 1) ks) ≡ every_taken ks → is_refused (cond (not u && b) (room_at n (k.generation + 1)) (free_of (n + 1) ks)) ≡ ((u || not b) && every_taken ks)
    go true b r = r
    go false true r = refl
    go false false r = r

-- an add has the number of its conditions, where its answer is made into another by f
module _ {T E I D A : Type 0} (k : Table T E I D) (t : T) (g : Faults) (e : E) (f : I → A) where
  pub add_number : number_told (on_accepted f (added_to k t g e).answer) ≡ first_in order (holds (of_add g (every_taken (k.keys_of t))))
  add_number = by (free_of 0 (k.keys_of t)) (room_is (k.keys_of t) 0)
    where
      by : (w : Answer Place) → is_refused w ≡ every_taken (k.keys_of t) → number_told (on_accepted f (added_in k t g e w).answer) ≡ first_in order (holds (of_add g (every_taken (k.keys_of t))))
      by (accepted (place i h)) r =
          judged_number (λ (a : Added T I). number_told (on_accepted f a.answer)) (placed_in k t e (room_at i h)) (refused_add k t (number_of (of_add g false))) (number_of (of_add g false)) refl refl
          ∙ sym (all_given (of_add g false)) ∙ ap (λ (b : Bool). first_in order (holds (of_add g b))) r
      by (refused m) r = go (eqb (number_of (of_add g true)) 0) (eqb-true (number_of (of_add g true)) 0) ∙ sym (all_given (of_add g true)) ∙ ap (λ (b : Bool). first_in order (holds (of_add g b))) r
        where
          go : (b : Bool) → (b ≡ true → number_of (of_add g true) ≡ 0) → number_told (on_accepted f (cond b (refused_add k t m) (refused_add k t (number_of (of_add g true)))).answer) ≡ number_of (of_add g true)
          go true h = absurd (true≢false (ap (λ (c : Conditions). c.no_room) (nothing_wrong (of_add g true) (h refl))))
          go false h = refl
