-- What a lookup finds and what a search for room gives stand inside the table, and a slot's entry is the element that
-- the code reads. RULES, living-id and lowest-free-slot. Assumes nothing.
use Prim.Native.Nat.{ℕ, zero, suc, ◌+◌, ◌<◌, ◌≤◌}
use native.Mathlib.Nat.{not-suc-le-zero, le_of_suc-le-suc}
use native.Mathlib.Omega.{arith}
use mathlib.Core.Path.{◌≡◌, refl, sym, ap, subst}
use mathlib.Core.Bool.{Bool, true, false, not, ◌&&◌, cond, false≢true}
use mathlib.Core.List.{List, [], ◌∷◌}
use lib.ListN.{length, get_or, set, replicate}
use lib.Dec.{ltb, eqb}
use borrow.Author.Tests.{ltb-true, ne_eqb}
use Rattle.judge.specs.Answer.{Answer, accepted, refused}
use Rattle.judge.specs.Numbers.{NO_ROOM}
use Rattle.ids.specs.Keys.{is_free, room_at, no_room, free_of, lives_in, was_given, gone, never_issued, standing_number, missing_of, standing_of, find_of, used_at, generation_at}
use Rattle.ids.specs.Lists.{read_at}
use Rattle.ids.specs.declared.Key.{Key}

-- ---- entries

module _ {A B : Type 0} (none : B) (f : A → B) where
  pub read_at_lem : (l : List A) (i : ℕ) (d : A) → i < length l → read_at none f l i ≡ f (get_or l i d)
  unfolding read_at
  read_at_lem [] i d h = absurd (not-suc-le-zero h)
  read_at_lem (x ∷ l) zero d h = refl
  read_at_lem (x ∷ l) (suc i) d h = read_at_lem l i d (le_of_suc-le-suc h)

  pub read_past : (l : List A) (i : ℕ) → length l ≤ i → read_at none f l i ≡ none
  unfolding read_at
  read_past [] i h = refl
  read_past (x ∷ l) zero h = absurd (not-suc-le-zero h)
  read_past (x ∷ l) (suc i) h = read_past l i (le_of_suc-le-suc h)

  pub read_set_same : (l : List A) (i : ℕ) (x : A) → i < length l → read_at none f (set l i x) i ≡ f x
  unfolding read_at
  read_set_same [] i x h = absurd (not-suc-le-zero h)
  read_set_same (y ∷ l) zero x h = refl
  read_set_same (y ∷ l) (suc i) x h = read_set_same l i x (le_of_suc-le-suc h)

  pub read_set_other : (l : List A) (i j : ℕ) (x : A) → (j ≡ i → ⊥) → read_at none f (set l i x) j ≡ read_at none f l j
  unfolding read_at
  read_set_other [] i j x n = refl
  read_set_other (y ∷ l) zero zero x n = absurd (n refl)
  read_set_other (y ∷ l) zero (suc j) x n = refl
  read_set_other (y ∷ l) (suc i) zero x n = refl
  read_set_other (y ∷ l) (suc i) (suc j) x n = read_set_other l i j x (λ e. n (ap suc e))

  pub read_replicate : (n i : ℕ) (x : A) → f x ≡ none → read_at none f (replicate n x) i ≡ none
  unfolding read_at
  read_replicate zero i x e = refl
  read_replicate (suc n) zero x e = e
  read_replicate (suc n) (suc i) x e = read_replicate n i x e

-- ---- a lookup

pub lives_parts : (ks : List Key) (i g : ℕ) → lives_in ks i g ≡ (used_at ks i && eqb (generation_at ks i) g)
unfolding lives_in read_at
lives_parts [] i g = refl
lives_parts (k ∷ ks) zero g = refl
lives_parts (k ∷ ks) (suc i) g = lives_parts ks i g

pub lives_inside : (ks : List Key) (i g : ℕ) → lives_in ks i g ≡ true → i < length ks
unfolding lives_in
lives_inside [] i g e = absurd (false≢true e)
lives_inside (k ∷ ks) zero g e = omega arith
lives_inside (k ∷ ks) (suc i) g e = let h = lives_inside ks i g e in omega arith

-- the number of an id that does not live is never 0
missing_refused : (last g : ℕ) → standing_number (missing_of last g) ≡ 0 → ⊥
missing_refused last g = go (was_given last g)
  where
    go : (b : Bool) → standing_number (cond b gone never_issued) ≡ 0 → ⊥
    go true z = omega arith
    go false z = omega arith

module _ (ks : List Key) (i g : ℕ) where
  -- the number by which an id is refused that does not live
  abbrev pub missing_number : ℕ
  missing_number = standing_number (missing_of (generation_at ks i) g)

  pub find_living : lives_in ks i g ≡ true → find_of ks i g ≡ accepted i
  unfolding find_of standing_of
  find_living l = rw l

  pub find_missing : lives_in ks i g ≡ false → find_of ks i g ≡ refused missing_number
  unfolding find_of standing_of
  find_missing l = rw (l, ne_eqb missing_number 0 (missing_refused (generation_at ks i) g))

  -- a lookup refuses, since the id does not live, or gives the slot, in which the id lives
  pub found_case :
      (P : Answer ℕ → Type 0) → ((n : ℕ) → (n ≡ 0 → ⊥) → lives_in ks i g ≡ false → P (refused n)) → (lives_in ks i g ≡ true → P (accepted i))
      → P (find_of ks i g)
  found_case P m h = go (lives_in ks i g) refl
    where
      go : (b : Bool) → lives_in ks i g ≡ b → P (find_of ks i g)
      go true l = subst P (sym (find_living l)) (h l)
      go false l = subst P (sym (find_missing l)) (m missing_number (missing_refused (generation_at ks i) g) l)

-- what is found is the slot asked for, and the id lives in it
pub record Finds (ks : List Key) (slot g i : ℕ) : Type 0 where
  pub same : i ≡ slot
  pub alive : lives_in ks slot g ≡ true

-- e is what `find` told
module _ (ks : List Key) (slot g i : ℕ) (e : accepted i ≡ find_of ks slot g) where
  pub finds : Finds ks slot g i
  finds =
      found_case ks slot g (λ w. accepted i ≡ w → Finds ks slot g i)
      (λ n z l e. absurd (cc))
      (λ l e. record { same = cc; alive = l })
      e

  pub found_slot : i ≡ slot
  found_slot = finds.same

  pub found_inside : i < length ks
  found_inside = let f : Finds ks slot g i = finds in omega (arith, lives_inside ks slot g f.alive)

-- ---- a search for room

-- what a search gives: the lowest slot that is free, and the generation after its last
pub record Gives (ks : List Key) (i g : ℕ) : Type 0 where
  pub inside : i < length ks
  pub empty : used_at ks i ≡ false
  pub below : generation_at ks i < 4294967295
  pub next : g ≡ generation_at ks i + 1
  pub lowest : (j : ℕ) → j < i → read_at false is_free ks j ≡ false

-- the same of keys whose first has the number n
record GivesFrom (ks : List Key) (n i g : ℕ) : Type 0 where
  place : ℕ
  at : i ≡ n + place
  gives : Gives ks place g

pub free_key : (k : Key) → is_free k ≡ true → (k.used ≡ false) × (k.generation < 4294967295)
free_key k f = go k.used refl f
  where
    go : (u : Bool) → k.used ≡ u → (not u && ltb k.generation 4294967295) ≡ true → (k.used ≡ false) × (k.generation < 4294967295)
    go true p f = absurd (false≢true f)
    go false p f = (p, ltb-true _ _ f)

module _ (k : Key) (ks : List Key) where
  gives_here : is_free k ≡ true → Gives (k ∷ ks) 0 (k.generation + 1)
  unfolding read_at
  gives_here f = record {
    inside = omega arith;
    empty = (free_key k f).0;
    below = (free_key k f).1;
    next = refl;
    lowest = λ j h. absurd (not-suc-le-zero h);
  }

  gives_later : (i g : ℕ) → is_free k ≡ false → Gives ks i g → Gives (k ∷ ks) (suc i) g
  unfolding read_at
  gives_later i g f p = record {
    inside = omega arith;
    empty = p.empty;
    below = p.below;
    next = p.next;
    lowest = go;
  }
    where
      go : (j : ℕ) → j < suc i → read_at false is_free (k ∷ ks) j ≡ false
      go zero h = f
      go (suc j) h = p.lowest j (le_of_suc-le-suc h)

gives_step :
    (k : Key) (ks : List Key) (n i g : ℕ) (b : Bool) → is_free k ≡ b → cond b (room_at n (k.generation + 1)) (free_of (n + 1) ks) ≡ room_at i g
    → (free_of (n + 1) ks ≡ room_at i g → GivesFrom ks (n + 1) i g) → GivesFrom (k ∷ ks) n i g
gives_step k ks n i g true f e ih =
    let p : n ≡ i = cc in
    let q : k.generation + 1 ≡ g = cc in
    record { place = 0; at = omega arith; gives = rw q at (gives_here k ks f) }
gives_step k ks n i g false f e ih =
    let p : GivesFrom ks (n + 1) i g = ih e in
    record { place = suc p.place; at = omega arith; gives = gives_later k ks p.place g f p.gives }

gives_from : (ks : List Key) (n i g : ℕ) → free_of n ks ≡ room_at i g → GivesFrom ks n i g
unfolding free_of
gives_from [] n i g e = absurd (cc)
gives_from (k ∷ ks) n i g e = gives_step k ks n i g (is_free k) refl e (gives_from ks (n + 1) i g)

module _ (ks : List Key) (i g : ℕ) (e : free_of 0 ks ≡ room_at i g) where
  pub gives : Gives ks i g
  gives =
      let p : GivesFrom ks 0 i g = gives_from ks 0 i g e in
      let q : p.place ≡ i = omega arith in
      rw q at p.gives

  pub room_inside : i < length ks
  room_inside = gives.inside

none_step :
    (k : Key) (ks : List Key) (n : ℕ) (b : Bool) → is_free k ≡ b → cond b (room_at n (k.generation + 1)) (free_of (n + 1) ks) ≡ no_room
    → (is_free k ≡ false) × (free_of (n + 1) ks ≡ no_room)
none_step k ks n true f e = absurd (cc)
none_step k ks n false f e = (f, e)

-- where a search gives nothing, no slot is free
pub none_free : (ks : List Key) (n : ℕ) → free_of n ks ≡ no_room → (j : ℕ) → read_at false is_free ks j ≡ false
unfolding free_of read_at
none_free [] n e j = refl
none_free (k ∷ ks) n e zero = (none_step k ks n (is_free k) refl e).0
none_free (k ∷ ks) n e (suc j) = none_free ks (n + 1) (none_step k ks n (is_free k) refl e).1 j

-- a refused search has the one number
refused_step :
    (k : Key) (ks : List Key) (i n : ℕ) (b : Bool) → (free_of (i + 1) ks ≡ refused n → n ≡ NO_ROOM)
    → cond b (room_at i (k.generation + 1)) (free_of (i + 1) ks) ≡ refused n → n ≡ NO_ROOM
refused_step k ks i n true ih e = absurd (cc)
refused_step k ks i n false ih e = ih e

pub room_number : (ks : List Key) (i n : ℕ) → free_of i ks ≡ refused n → n ≡ NO_ROOM
unfolding free_of
room_number [] i n e = cc
room_number (k ∷ ks) i n e = refused_step k ks i n (is_free k) (room_number ks (i + 1) n) e
