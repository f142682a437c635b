-- The laws on names: an add gives an id that is new, a removal ends the one id that it names, neither touches any
-- other, and an id once dead never lives again. `retired_stays`, `freed_room`, `freed_lowest` and `first_one` stand for
-- a reader: no proof cites them. 01, "Names that cannot be shared". RULES, apart. Assumes nothing.
use Prim.Native.Nat.{ℕ, zero, suc, ◌+◌, ◌<◌, ◌≤◌}
use native.Mathlib.Nat.{not-suc-le-zero, le_of_suc-le-suc}
use native.Mathlib.Decide.{ℕ_discrete, dec_le}
use native.Mathlib.Omega.{arith}
use mathlib.Core.Path.{◌≡◌, refl, sym, ◌∙◌}
use mathlib.Core.Bool.{Bool, true, false, not, ◌&&◌, false≢true}
use mathlib.Core.Logic.{◌⊎◌, inl, inr}
use mathlib.Core.List.{List, [], ◌∷◌}
use lib.ListN.{length, set, replicate, length-set}
use lib.Dec.{ltb, eqb}
use borrow.Author.Tests.{ltb-false, eqb-true, eq-eqb, ne_eqb}
use Rattle.ids.specs.Keys.{is_free, room_at, no_room, free_of, lives_in, taken_at, left_at, used_at, generation_at, Closed, Spent, Numbered, Later, same, added, removed}
use Rattle.ids.specs.Lists.{read_at}
use Rattle.ids.specs.declared.Key.{Key}
use Rattle.ids.proofs.Places.{read_set_same, read_set_other, read_replicate, lives_parts, lives_inside, Gives, gives, none_free}

-- ---- a slot

-- a slot is the one at hand or another one
split : {P : Type 0} (j i : ℕ) → (j ≡ i → P) → ((j ≡ i → ⊥) → P) → P
split {P} j i s o = go (ℕ_discrete j i)
  where
    go : Dec (j ≡ i) → P
    go (yes p) = s p
    go (no n) = o n

-- an id that lives is that of its slot
pub record Occupied (ks : List Key) (i g : ℕ) : Type 0 where
  pub occupied : used_at ks i ≡ true
  pub agrees : generation_at ks i ≡ g

pub living : (ks : List Key) (i g : ℕ) → lives_in ks i g ≡ true → Occupied ks i g
living ks i g l = go (used_at ks i) refl (rw lives_parts at l)
  where
    go : (u : Bool) → used_at ks i ≡ u → (u && eqb (generation_at ks i) g) ≡ true → Occupied ks i g
    go true u e = record { occupied = u; agrees = eqb-true _ _ e }
    go false u e = absurd (false≢true e)

empty_dead : (ks : List Key) (i g : ℕ) → used_at ks i ≡ false → lives_in ks i g ≡ false
empty_dead ks i g u = rw (lives_parts ks i g, u)

other_dead : (ks : List Key) (i g : ℕ) → (generation_at ks i ≡ g → ⊥) → lives_in ks i g ≡ false
other_dead ks i g n = rw (lives_parts ks i g, ne_eqb _ _ n) (go (used_at ks i))
  where
    go : (u : Bool) → (u && false) ≡ false
    go true = refl
    go false = refl

-- what a changed slot says
module _ (ks : List Key) (i : ℕ) (k : Key) where
  used_here : i < length ks → used_at (set ks i k) i ≡ k.used
  used_here = read_set_same false (λ (k : Key). k.used) ks i k

  generation_here : i < length ks → generation_at (set ks i k) i ≡ k.generation
  generation_here = read_set_same 0 (λ (k : Key). k.generation) ks i k

  module _ (j : ℕ) (n : j ≡ i → ⊥) where
    used_there : used_at (set ks i k) j ≡ used_at ks j
    used_there = read_set_other false (λ (k : Key). k.used) ks i j k n

    pub generation_there : generation_at (set ks i k) j ≡ generation_at ks j
    generation_there = read_set_other 0 (λ (k : Key). k.generation) ks i j k n

    lives_there : (h : ℕ) → lives_in (set ks i k) j h ≡ lives_in ks j h
    lives_there h = rw (lives_parts (set ks i k) j h, lives_parts ks j h, used_there, generation_there)

-- ---- an add

module _ (ks : List Key) (i g : ℕ) (e : free_of 0 ks ≡ room_at i g) where
  own : Gives ks i g
  own = gives ks i g e

  own_used : used_at (set ks i (taken_at g)) i ≡ true
  own_used = used_here ks i (taken_at g) own.inside

  pub own_generation : generation_at (set ks i (taken_at g)) i ≡ g
  own_generation = generation_here ks i (taken_at g) own.inside

  -- the generation after the slot's last: RULES, generation
  pub add_raises : g ≡ generation_at ks i + 1
  add_raises = own.next

  -- an add makes its id live, and the id did not live before
  pub add_lives : lives_in (set ks i (taken_at g)) i g ≡ true
  add_lives = rw (lives_parts (set ks i (taken_at g)) i g, own_used, eq-eqb _ _ own_generation)

  pub add_new : lives_in ks i g ≡ false
  add_new = empty_dead ks i g own.empty

  -- it leaves every other id as it was, also those of its own slot
  pub add_others : (j h : ℕ) → (j ≡ i → h ≡ g → ⊥) → lives_in (set ks i (taken_at g)) j h ≡ lives_in ks j h
  add_others j h n = split j i here (λ o. lives_there ks i (taken_at g) j o h)
    where
      here : j ≡ i → lives_in (set ks i (taken_at g)) j h ≡ lives_in ks j h
      here p = rw p (other_dead (set ks i (taken_at g)) i h (λ q. n p (sym q ∙ own_generation)) ∙ sym (empty_dead ks i h own.empty))

  -- no generation falls
  pub add_rises : (j : ℕ) → generation_at ks j ≤ generation_at (set ks i (taken_at g)) j
  add_rises j = split j i (λ p. rw p (omega (arith, own_generation, own.next))) (λ o. omega (arith, generation_there ks i (taken_at g) j o))

  -- the id that it gives is not one that is spent
  pub add_unspent : Spent ks i g → ⊥
  add_unspent s = omega (arith, own.next)

  pub add_spent : (j h : ℕ) → Spent ks j h → Spent (set ks i (taken_at g)) j h
  add_spent j h s = record {
    given = omega (arith, add_rises j);
    dead = add_others j h (λ p q. add_unspent (rw (p, q) at s)) ∙ s.dead;
  }

  pub add_numbered : Numbered ks → Numbered (set ks i (taken_at g))
  add_numbered n = record {
    first = λ j u. split j i (λ p. rw p (omega (arith, own_generation, own.next))) (λ o. rw (generation_there ks i (taken_at g) j o) (n.first j (sym (used_there ks i (taken_at g) j o) ∙ u)));
    last = λ j. split j i (λ p. rw p (omega (arith, own_generation, own.next, own.below))) (λ o. rw (generation_there ks i (taken_at g) j o) (n.last j));
  }

-- ---- a removal

module _ (ks : List Key) (i g : ℕ) (l : lives_in ks i g ≡ true) where
  left : used_at (set ks i (left_at g)) i ≡ false
  left = used_here ks i (left_at g) (lives_inside ks i g l)

  -- a removal leaves every generation
  pub remove_generations : (j : ℕ) → generation_at (set ks i (left_at g)) j ≡ generation_at ks j
  remove_generations j = split j i here (generation_there ks i (left_at g) j)
    where
      here : j ≡ i → generation_at (set ks i (left_at g)) j ≡ generation_at ks j
      here p = rw p (generation_here ks i (left_at g) (lives_inside ks i g l) ∙ sym (living ks i g l).agrees)

  -- it ends its id
  pub remove_dead : lives_in (set ks i (left_at g)) i g ≡ false
  remove_dead = empty_dead (set ks i (left_at g)) i g left

  -- and leaves every other one as it was
  pub remove_others : (j h : ℕ) → (j ≡ i → h ≡ g → ⊥) → lives_in (set ks i (left_at g)) j h ≡ lives_in ks j h
  remove_others j h n = split j i here (λ o. lives_there ks i (left_at g) j o h)
    where
      here : j ≡ i → lives_in (set ks i (left_at g)) j h ≡ lives_in ks j h
      here p = rw p (empty_dead (set ks i (left_at g)) i h left ∙ sym (other_dead ks i h (λ q. n p (sym q ∙ (living ks i g l).agrees))))

  pub remove_own_spent : Spent (set ks i (left_at g)) i g
  remove_own_spent = record { given = omega (arith, remove_generations i, (living ks i g l).agrees); dead = remove_dead }

  pub remove_spent : (j h : ℕ) → Spent ks j h → Spent (set ks i (left_at g)) j h
  remove_spent j h s = record {
    given = omega (arith, remove_generations j);
    dead = remove_others j h (λ p q. false≢true (sym (rw (p, q) at s.dead) ∙ l)) ∙ s.dead;
  }

  pub remove_numbered : Numbered ks → Numbered (set ks i (left_at g))
  remove_numbered n = record {
    first = λ j u. rw (remove_generations j) (split j i (λ p. absurd (false≢true (sym left ∙ (rw p at u)))) (λ o. n.first j (sym (used_there ks i (left_at g) j o) ∙ u)));
    last = λ j. rw (remove_generations j) (n.last j);
  }

-- ---- a table's beginning

module _ (n : ℕ) where
  start_empty : (i : ℕ) → used_at (replicate n (left_at 0)) i ≡ false
  start_empty i = read_replicate false (λ (k : Key). k.used) n i (left_at 0) refl

  pub start_zero : (i : ℕ) → generation_at (replicate n (left_at 0)) i ≡ 0
  start_zero i = read_replicate 0 (λ (k : Key). k.generation) n i (left_at 0) refl

  pub start_numbered : Numbered (replicate n (left_at 0))
  start_numbered = record {
    first = λ i u. absurd (false≢true (sym (start_empty i) ∙ u));
    last = λ i. omega (arith, start_zero i);
  }

-- generation 0 never lives
pub zero_dead : (ks : List Key) → Numbered ks → (j : ℕ) → lives_in ks j 0 ≡ false
zero_dead ks n j = go (lives_in ks j 0) refl
  where
    go : (b : Bool) → lives_in ks j 0 ≡ b → b ≡ false
    go true l = let v = living ks j 0 l in absurd (omega (arith, n.first j v.occupied, v.agrees))
    go false l = refl

-- ---- whatever comes after

-- what each add and each removal keeps, any number of them keep
module _ (P : List Key → Type 0) where
  kept :
      {ks ls : List Key} → ((ms : List Key) (i g : ℕ) → free_of 0 ms ≡ room_at i g → P ms → P (set ms i (taken_at g)))
      → ((ms : List Key) (i g : ℕ) → lives_in ms i g ≡ true → P ms → P (set ms i (left_at g))) → Later ks ls → P ks → P ls
  kept a r same p = p
  kept {ks} a r (added i g e m) p = kept a r m (a ks i g e p)
  kept {ks} a r (removed i g l m) p = kept a r m (r ks i g l p)

module _ {ks ls : List Key} (m : Later ks ls) where
  -- generations never fall
  pub later_rises : (j : ℕ) → generation_at ks j ≤ generation_at ls j
  later_rises j =
      kept (λ (ms : List Key). generation_at ks j ≤ generation_at ms j)
      (λ ms i g e p. omega (arith, p, add_rises ms i g e j))
      (λ ms i g l p. omega (arith, p, remove_generations ms i g l j))
      m (omega arith)

  pub later_spent : (j h : ℕ) → Spent ks j h → Spent ls j h
  later_spent j h = kept (λ (ms : List Key). Spent ms j h) (λ ms i g e. add_spent ms i g e j h) (λ ms i g l. remove_spent ms i g l j h) m

  pub later_numbered : Numbered ks → Numbered ls
  later_numbered = kept Numbered add_numbered remove_numbered m

-- an id that lived and is dead never lives again
pub once_dead : {ks ls ms : List Key} (j h : ℕ) → lives_in ks j h ≡ true → Later ks ls → lives_in ls j h ≡ false → Later ls ms → lives_in ms j h ≡ false
once_dead {ks} {ls} j h l m d after = (later_spent after j h spent).dead
  where
    spent : Spent ls j h
    spent = record { given = omega (arith, (living ks j h l).agrees, later_rises m j); dead = d }

-- two adds, whatever happened between, never give the same id
pub two_adds :
    (ks : List Key) {ls : List Key} (i g j h : ℕ) → free_of 0 ks ≡ room_at i g → Later (set ks i (taken_at g)) ls → free_of 0 ls ≡ room_at j h → j ≡ i → h ≡ g
    → ⊥
two_adds ks {ls} i g j h e m f p q =
    let a : h ≡ generation_at ls j + 1 = add_raises ls j h f in
    let b : generation_at (set ks i (taken_at g)) i ≡ g = own_generation ks i g e in
    omega (arith, later_rises m i, rw p at a)

-- ---- which slot

-- a slot whose generations are used up is never given again: RULES, retired-slot
pub retired_stays :
    {ks ls : List Key} (i j h : ℕ) → 4294967295 ≤ generation_at ks i → Later ks ls → free_of 0 ls ≡ room_at j h → j ≡ i → ⊥
retired_stays {ks} {ls} i j h r m f p =
    let b : generation_at ls j < 4294967295 = (gives ls j h f).below in
    omega (arith, later_rises m i, rw p at b)

closed_key : (k : Key) → is_free k ≡ false → (k.used ≡ true) ⊎ (4294967295 ≤ k.generation)
closed_key k f = go k.used refl f
  where
    go : (u : Bool) → k.used ≡ u → (not u && ltb k.generation 4294967295) ≡ false → (k.used ≡ true) ⊎ (4294967295 ≤ k.generation)
    go true u f = inl u
    go false u f = inr (ltb-false _ _ f)

closed : (ks : List Key) (j : ℕ) → j < length ks → read_at false is_free ks j ≡ false → Closed ks j
unfolding read_at
closed [] j h f = absurd (not-suc-le-zero h)
closed (k ∷ ks) zero h f = closed_key k f
closed (k ∷ ks) (suc j) h f = closed ks j (le_of_suc-le-suc h) f

-- every slot below the one that is given is taken or used up: RULES, lowest-free-slot
pub lowest : (ks : List Key) (i g : ℕ) → free_of 0 ks ≡ room_at i g → (j : ℕ) → j < i → Closed ks j
lowest ks i g e j h =
    let p : Gives ks i g = gives ks i g e in
    closed ks j (omega arith) (p.lowest j h)

-- where none is given, every slot is taken or used up: RULES, no-room
pub no_room_lem : (ks : List Key) → free_of 0 ks ≡ no_room → (j : ℕ) → j < length ks → Closed ks j
no_room_lem ks e j h = closed ks j h (none_free ks 0 e j)

-- a slot that is freed before its last generation can be given again: there is room, and no higher than the slot:
-- RULES, retired-slot
module _ (ks : List Key) (i g : ℕ) (l : lives_in ks i g ≡ true) (b : g < 4294967295) where
  open_again : Closed (set ks i (left_at g)) i → ⊥
  open_again (inl u) = false≢true (sym (left ks i g l) ∙ u)
  open_again (inr r) = omega (arith, remove_generations ks i g l i, (living ks i g l).agrees)

  pub freed_room : free_of 0 (set ks i (left_at g)) ≡ no_room → ⊥
  freed_room e = open_again (no_room_lem (set ks i (left_at g)) e i (rw length-set (lives_inside ks i g l)))

  pub freed_lowest : (j h : ℕ) → free_of 0 (set ks i (left_at g)) ≡ room_at j h → j ≤ i
  freed_lowest j h e = go (dec_le j i)
    where
      go : Dec (j ≤ i) → j ≤ i
      go (yes p) = p
      go (no n) = absurd (open_again (lowest (set ks i (left_at g)) j h e i (omega arith)))

-- a new table gives slot 0 and generation 1: RULES, generation
pub first_one : (n : ℕ) → free_of 0 (replicate (suc n) (left_at 0)) ≡ room_at 0 1
unfolding free_of
first_one n = refl
