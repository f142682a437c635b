-- What a run of calls says of an id: one that a call of the run gave out lives or is gone ever after, and one that is
-- gone stays so; in a station that calls reached from a fresh one, an id that no call gave out was never issued. 02,
-- dead or never ours. RULES, issued. `issued_known` stands for a reader: no proof cites it. Assumes nothing.
use Prim.Native.Nat.{ℕ}
use mathlib.Core.Path.{◌≡◌, refl}
use mathlib.Core.Bool.{Bool, true, false}
use mathlib.Core.Logic.{◌⊎◌, inl, inr}
use mathlib.Core.List.{List, [], ◌∷◌}
use Rattle.ids.specs.Keys.{GivenOut, living, gone, never_issued}
use Rattle.ids.specs.declared.Key.{Key}
use Rattle.ids.proofs.Standings as standings
use Rattle.station.specs.Stations.{fresh_station}
use Rattle.station.specs.declared.Station.{Station}
use Rattle.laws.specs.Calls.{Call, after, after_all, Kind, of_clock, of_modulator, keys_of, lives, standing, Told, named, told, Issued, Target}
use Rattle.laws.proofs.Lives.{took, run_later, run_numbered}
use Rattle.laws.proofs.lemmas.Deeds.{Deed, leaves, changes, removes, adds, turns, deed}

-- ---- one call

-- an id that is given out behind a call was given out before it, or by its answer
deed_gave :
    {A : Type 0} {k : Kind} {ks ls : List Key} {es fs : List A} {a : Target} {o : Told} → Deed k ks es a o ls fs → (j h : ℕ) → GivenOut ls j h
    → GivenOut ks j h ⊎ (o ≡ named k j h)
deed_gave (leaves a o u) j h p = inl p
deed_gave (changes i g x l) j h p = inl p
deed_gave {ks = ks} (removes i g l) j h p = inl (standings.remove_gave ks i g l j h p)
deed_gave {k = k} {ks = ks} (adds i g x e) j h p = go (standings.add_gave ks i g e j h p)
  where
    go : GivenOut ks j h ⊎ ((j ≡ i) × (h ≡ g)) → GivenOut ks j h ⊎ (named k i g ≡ named k j h)
    go (inl q) = inl q
    go (inr (p, q)) = inr (rw (p, q))
deed_gave (turns fs) j h p = inl p

-- ---- a run

module _ (k : Kind) (i g : ℕ) where
  -- what a run gave out its slot has given
  issued_given : (st : Station) (cs : List Call) → Issued k i g st cs → GivenOut (keys_of k (after_all st cs)) i g
  unfolding after_all
  issued_given st [] x = absurd x
  issued_given st (c ∷ cs) (inl e) =
      standings.later_given (run_later k (after st c) cs) i g (rw (took k st c i g e).keys (standings.add_gives (keys_of k st) i g (took k st c i g e).room))
  issued_given st (c ∷ cs) (inr x) = issued_given (after st c) cs x

  -- and what it has given it gave in the run, or before
  given_issued : (st : Station) (cs : List Call) → GivenOut (keys_of k (after_all st cs)) i g → GivenOut (keys_of k st) i g ⊎ Issued k i g st cs
  unfolding after_all
  given_issued st [] p = inl p
  given_issued st (c ∷ cs) p = go (given_issued (after st c) cs p)
    where
      by : GivenOut (keys_of k st) i g ⊎ (told st c ≡ named k i g) → GivenOut (keys_of k st) i g ⊎ Issued k i g st (c ∷ cs)
      by (inl p) = inl p
      by (inr e) = inr (inl e)

      go : GivenOut (keys_of k (after st c)) i g ⊎ Issued k i g (after st c) cs → GivenOut (keys_of k st) i g ⊎ Issued k i g st (c ∷ cs)
      go (inl p) = by (deed_gave (deed k st c) i g p)
      go (inr x) = inr (inr x)

  -- an id that a call of the run gave out lives or is gone, then and after any further calls: RULES, issued. It holds
  -- from any station
  pub issued_known :
      (st : Station) (cs : List Call) → Issued k i g st cs → (ds : List Call)
      → (standing k (after_all (after_all st cs) ds) i g ≡ living) ⊎ (standing k (after_all (after_all st cs) ds) i g ≡ gone)
  issued_known st cs x ds =
      standings.given_known (keys_of k (after_all (after_all st cs) ds)) i g
      (standings.later_given (run_later k (after_all st cs) ds) i g (issued_given st cs x))

  pub issued_gone : (st : Station) (cs : List Call) → Issued k i g st cs → lives k (after_all st cs) i g ≡ false → standing k (after_all st cs) i g ≡ gone
  issued_gone st cs x = standings.given_gone (keys_of k (after_all st cs)) i g (issued_given st cs x)

  -- and one that is gone stays gone
  pub gone_stays : (st : Station) → standing k st i g ≡ gone → (cs : List Call) → standing k (after_all st cs) i g ≡ gone
  gone_stays st e cs = standings.later_gone (run_later k st cs) i g e

  -- ---- from the beginning

  fresh_ungiven : GivenOut (keys_of k fresh_station) i g → ⊥
  fresh_ungiven = go k
    where
      go : (k : Kind) → GivenOut (keys_of k fresh_station) i g → ⊥
      go of_clock = standings.start_ungiven 16 i g
      go of_modulator = standings.start_ungiven 16 i g

  module _ (cs : List Call) where
    by_run : GivenOut (keys_of k (after_all fresh_station cs)) i g → Issued k i g fresh_station cs
    by_run p = go (given_issued fresh_station cs p)
      where
        go : GivenOut (keys_of k fresh_station) i g ⊎ Issued k i g fresh_station cs → Issued k i g fresh_station cs
        go (inl q) = absurd (fresh_ungiven q)
        go (inr x) = x

    -- an id that lives or is gone was given out by a call of the run: RULES, issued
    pub living_issued : lives k (after_all fresh_station cs) i g ≡ true → Issued k i g fresh_station cs
    living_issued l = by_run (standings.living_given (keys_of k (after_all fresh_station cs)) i g (run_numbered k cs) l)

    pub gone_issued : standing k (after_all fresh_station cs) i g ≡ gone → Issued k i g fresh_station cs
    gone_issued e = by_run (standings.gone_given (keys_of k (after_all fresh_station cs)) i g e).0

    -- so an id that no call of the run gave out was never issued, and is not gone: RULES, issued
    pub unissued_never : (Issued k i g fresh_station cs → ⊥) → standing k (after_all fresh_station cs) i g ≡ never_issued
    unissued_never n = standings.ungiven_never (keys_of k (after_all fresh_station cs)) i g (λ p. n (by_run p)) (dead (lives k (after_all fresh_station cs) i g) living_issued)
      where
        dead : (b : Bool) → (b ≡ true → Issued k i g fresh_station cs) → b ≡ false
        dead true h = absurd (n (h refl))
        dead false h = refl

    pub never_unissued : standing k (after_all fresh_station cs) i g ≡ never_issued → Issued k i g fresh_station cs → ⊥
    never_unissued e x = go (standings.given_known (keys_of k (after_all fresh_station cs)) i g (issued_given fresh_station cs x))
      where
        go : (standing k (after_all fresh_station cs) i g ≡ living) ⊎ (standing k (after_all fresh_station cs) i g ≡ gone) → ⊥
        go (inl p) = cc
        go (inr p) = cc
