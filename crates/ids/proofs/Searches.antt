-- What `find` reads in a slot and the place that `free` finds say what `find_of` and `free_of` answer. Assumes nothing.
use Prim.Native.Nat.{ℕ, zero, suc, ◌+◌, ◌<◌, ◌≤◌}
use native.Mathlib.Omega.{arith}
use mathlib.Core.Path.{◌≡◌, refl, sym, ap, ◌∙◌}
use mathlib.Core.Bool.{Bool, true, false, ◌&&◌, beq, cond}
use mathlib.Core.List.{List, [], ◌∷◌}
use lib.ListN.{length, get_or}
use lib.Dec.{eqb}
use borrow.Author.Tests.{le-leb, lt-leb}
use Rattle.std.specs.Prelude.{Option, None, Some, position}
use Rattle.std.specs.List.{position_from}
use Rattle.std.proofs.lemmas.Iterator.Adapters.{position_from-zero}
use Rattle.judge.specs.Answer.{accepted, refused}
use Rattle.judge.specs.Numbers.{NEVER_ISSUED}
use Rattle.ids.specs.Keys.{is_free, room_at, no_room, free_of, lives_in, standing_number, missing_of, find_of, taken_at, generation_at}
use Rattle.ids.specs.declared.Key.{Key}
use Rattle.ids.proofs.Places.{free_key, read_at_lem, read_past, lives_parts, find_living, find_missing}

-- a slot that has given nothing has given no generation
none_given : (g : ℕ) → NEVER_ISSUED ≡ standing_number (missing_of 0 g)
none_given zero = refl
none_given (suc g) = rw (le-leb 1 (suc g) (omega arith), lt-leb (suc g) 0 (omega arith))

-- ---- `find`, at each way that it goes

-- k is the key in slot i
module _ (ks : List Key) (i g : ℕ) (k : Key) (h : i < length ks) (at : k ≡ get_or ks i k) where
  last_at : generation_at ks i ≡ k.generation
  last_at = read_at_lem 0 (λ (j : Key). j.generation) ks i k h ∙ ap (λ (j : Key). j.generation) (sym at)

  lives_at : lives_in ks i g ≡ (k.used && eqb k.generation g)
  lives_at = rw (lives_parts ks i g, last_at, read_at_lem false (λ (j : Key). j.used) ks i k h, ← at)

  -- e and t say that the code compared it, as r, with the key of an add that gave g
  module _ {l : Key} {r : Bool} (e : l ≡ taken_at g) (t : r ≡ (beq k.used l.used && eqb k.generation l.generation)) where
    compared : r ≡ lives_in ks i g
    compared = rw (t, e, lives_at) (go k.used (eqb k.generation g))
      where
        go : (u b : Bool) → (beq u true && b) ≡ (u && b)
        go true b = refl
        go false b = refl

    pub find_live : r ≡ true → accepted i ≡ find_of ks i g
    find_live l = rw (find_living ks i g (sym compared ∙ l))

    -- n is the number that the code computed by the slot's generation
    pub find_dead : {n : ℕ} → r ≡ false → n ≡ standing_number (missing_of k.generation g) → refused n ≡ find_of ks i g
    find_dead l n = rw (find_missing ks i g (sym compared ∙ l), last_at, n)

pub find_past : (ks : List Key) (i g : ℕ) → length ks ≤ i → refused NEVER_ISSUED ≡ find_of ks i g
find_past ks i g h =
    rw (find_missing ks i g (rw (lives_parts ks i g, read_past false (λ (k : Key). k.used) ks i h)), read_past 0 (λ (k : Key). k.generation) ks i h, ← none_given g)

-- ---- `free`: what the place of the first free key says

-- slot i, of keys whose first has the number n, is what the search answers
record Opens (ks : List Key) (d : Key) (n i : ℕ) : Type 0 where
  place : ℕ
  at : i ≡ n + place
  below : (get_or ks place d).generation < 4294967295
  room : room_at i ((get_or ks place d).generation + 1) ≡ free_of n ks

opens_step :
    (k : Key) (ks : List Key) (d : Key) (n i : ℕ) (b : Bool) → is_free k ≡ b → cond b (Some n) (position_from is_free (n + 1) ks) ≡ Some i
    → (position_from is_free (n + 1) ks ≡ Some i → Opens ks d (n + 1) i) → Opens (k ∷ ks) d n i
unfolding free_of
opens_step k ks d n i true f e ih =
    let p : n ≡ i = cc in
    record { place = 0; at = omega arith; below = (free_key k f).1; room = rw (f, p) }
opens_step k ks d n i false f e ih =
    let o : Opens ks d (n + 1) i = ih e in
    record { place = suc o.place; at = omega arith; below = o.below; room = rw f o.room }

opens_from : (ks : List Key) (d : Key) (n i : ℕ) → position_from is_free n ks ≡ Some i → Opens ks d n i
opens_from [] d n i e = cc
opens_from (k ∷ ks) d n i e = opens_step k ks d n i (is_free k) refl e (opens_from ks d (n + 1) i)

none_step :
    (k : Key) (ks : List Key) (n : ℕ) (b : Bool) → is_free k ≡ b → cond b (Some n) (position_from is_free (n + 1) ks) ≡ None
    → (position_from is_free (n + 1) ks ≡ None → no_room ≡ free_of (n + 1) ks) → no_room ≡ free_of n (k ∷ ks)
unfolding free_of
none_step k ks n true f e ih = cc
none_step k ks n false f e ih = rw f (ih e)

none_from : (ks : List Key) (n : ℕ) → position_from is_free n ks ≡ None → no_room ≡ free_of n ks
unfolding free_of
none_from [] n e = refl
none_from (k ∷ ks) n e = none_step k ks n (is_free k) refl e (none_from ks (n + 1))

-- r is what the code found
module _ (ks : List Key) {r : Option ℕ} (is : r ≡ position is_free ks) where
  pub none_open : r ≡ None → no_room ≡ free_of 0 ks
  none_open e = none_from ks 0 (sym (is ∙ position_from-zero is_free ks) ∙ e)

  module _ (d : Key) (i : ℕ) (e : r ≡ Some i) where
    opens : Opens ks d 0 i
    opens = opens_from ks d 0 i (sym (is ∙ position_from-zero is_free ks) ∙ e)

    pub open_below : (get_or ks i d).generation < 4294967295
    open_below = let o = opens in let p : o.place ≡ i = omega arith in rw p at o.below

    pub open_room : room_at i ((get_or ks i d).generation + 1) ≡ free_of 0 ks
    open_room = let o = opens in let p : o.place ≡ i = omega arith in rw p at o.room
