-- The laws on what an id is to a table: an add gives an id out, and gives out no other; whatever adds and removals come
-- after, an id that was given out lives or is gone, and one that is gone stays so. 02, dead or never ours. RULES, gone
-- and never-issued. Assumes nothing.
use Prim.Native.Nat.{ℕ, ◌≤◌}
use native.Mathlib.Decide.{ℕ_discrete}
use native.Mathlib.Omega.{arith}
use mathlib.Core.Path.{◌≡◌, refl, sym}
use mathlib.Core.Bool.{Bool, true, false, ◌&&◌, cond, false≢true}
use mathlib.Core.Logic.{◌⊎◌, inl, inr}
use mathlib.Core.List.{List}
use lib.ListN.{set, replicate}
use lib.Dec.{leb}
use borrow.Author.Tests.{leb-true, le-leb}
use Rattle.ids.specs.Keys.{room_at, free_of, lives_in, generation_at, was_given, living, gone, never_issued, standing_of, taken_at, left_at, GivenOut, Numbered, Later}
use Rattle.ids.specs.declared.Key.{Key}
use Rattle.ids.proofs.Names as names

-- ---- the test, and what it says

given_by : (last g : ℕ) → was_given last g ≡ true → (1 ≤ g) × (g ≤ last)
given_by last g e = go (leb 1 g) refl e
  where
    go : (b : Bool) → leb 1 g ≡ b → (b && leb g last) ≡ true → (1 ≤ g) × (g ≤ last)
    go true p e = (leb-true 1 g p, leb-true g last e)
    go false p e = absurd (false≢true e)

module _ (ks : List Key) (i g : ℕ) where
  pub lives_living : lives_in ks i g ≡ true → standing_of ks i g ≡ living
  unfolding standing_of
  lives_living l = rw l

  -- an id that was given out and does not live is gone
  pub given_gone : GivenOut ks i g → lives_in ks i g ≡ false → standing_of ks i g ≡ gone
  unfolding standing_of
  given_gone p l = rw (l, le-leb 1 g p.least, le-leb g (generation_at ks i) p.most)

  -- so an id that was given out lives or is gone
  pub given_known : GivenOut ks i g → (standing_of ks i g ≡ living) ⊎ (standing_of ks i g ≡ gone)
  given_known p = go (lives_in ks i g) refl
    where
      go : (b : Bool) → lives_in ks i g ≡ b → (standing_of ks i g ≡ living) ⊎ (standing_of ks i g ≡ gone)
      go true l = inl (lives_living l)
      go false l = inr (given_gone p l)

  -- and one that is gone was given out, and does not live
  pub gone_given : standing_of ks i g ≡ gone → GivenOut ks i g × (lives_in ks i g ≡ false)
  unfolding standing_of
  gone_given e = go (lives_in ks i g) (was_given (generation_at ks i) g) refl refl e
    where
      go :
          (b c : Bool) → lives_in ks i g ≡ b → was_given (generation_at ks i) g ≡ c → cond b living (cond c gone never_issued) ≡ gone
          → GivenOut ks i g × (lives_in ks i g ≡ false)
      go true c l q e = absurd (cc)
      go false true l q e = let h = given_by (generation_at ks i) g q in (record { least = h.0; most = h.1 }, l)
      go false false l q e = absurd (cc)

  -- one that was not given out and does not live was never issued
  pub ungiven_never : (GivenOut ks i g → ⊥) → lives_in ks i g ≡ false → standing_of ks i g ≡ never_issued
  unfolding standing_of
  ungiven_never n l = go (was_given (generation_at ks i) g) refl
    where
      go : (c : Bool) → was_given (generation_at ks i) g ≡ c → cond (lives_in ks i g) living (cond c gone never_issued) ≡ never_issued
      go true q = let h = given_by (generation_at ks i) g q in absurd (n (record { least = h.0; most = h.1 }))
      go false q = rw l

  -- an id of a table of calls lives only where it was given out
  pub living_given : Numbered ks → lives_in ks i g ≡ true → GivenOut ks i g
  living_given n l =
      let v = names.living ks i g l in
      record { least = omega (arith, n.first i v.occupied, v.agrees); most = omega (arith, v.agrees) }

-- ---- an add, and a removal

module _ (ks : List Key) (i g : ℕ) (e : free_of 0 ks ≡ room_at i g) where
  -- an add gives its id out
  pub add_gives : GivenOut (set ks i (taken_at g)) i g
  add_gives = record { least = omega (arith, names.add_raises ks i g e); most = omega (arith, names.own_generation ks i g e) }

  -- and no other
  pub add_gave : (j h : ℕ) → GivenOut (set ks i (taken_at g)) j h → GivenOut ks j h ⊎ ((j ≡ i) × (h ≡ g))
  add_gave j h p = go (ℕ_discrete j i) (ℕ_discrete h g)
    where
      go : Dec (j ≡ i) → Dec (h ≡ g) → GivenOut ks j h ⊎ ((j ≡ i) × (h ≡ g))
      go (yes q) (yes r) = inr (q, r)
      go (yes q) (no n) =
          let most : h ≤ generation_at (set ks i (taken_at g)) i = rw q at p.most in
          inl (record { least = p.least; most = rw q (omega (arith, most, n, names.own_generation ks i g e, names.add_raises ks i g e)) })
      go (no n) r = inl (record { least = p.least; most = rw (sym (names.generation_there ks i (taken_at g) j n)) p.most })

-- a removal gives nothing out
pub remove_gave : (ks : List Key) (i g : ℕ) → lives_in ks i g ≡ true → (j h : ℕ) → GivenOut (set ks i (left_at g)) j h → GivenOut ks j h
remove_gave ks i g l j h p = record { least = p.least; most = omega (arith, p.most, names.remove_generations ks i g l j) }

-- ---- whatever comes after

module _ {ks ls : List Key} (m : Later ks ls) (j h : ℕ) where
  -- what was given out stays given out
  pub later_given : GivenOut ks j h → GivenOut ls j h
  later_given p = record { least = p.least; most = omega (arith, p.most, names.later_rises m j) }

  -- and what is gone stays gone
  pub later_gone : standing_of ks j h ≡ gone → standing_of ls j h ≡ gone
  later_gone e =
      let p = gone_given ks j h e in
      given_gone ls j h (later_given p.0) (names.later_spent m j h (record { given = p.0.most; dead = p.1 })).dead

-- a new table has given nothing out
pub start_ungiven : (n i g : ℕ) → GivenOut (replicate n (left_at 0)) i g → ⊥
start_ungiven n i g p = omega (arith, p.least, p.most, names.start_zero n i)
