-- A call leaves every living entry that it does not act on: a call on one clock every other clock and all modulators,
-- and the reverse. RULES, apart. Assumes nothing.
use Prim.Native.Nat.{ℕ}
use mathlib.Core.Path.{◌≡◌, refl, sym, ◌∙◌}
use mathlib.Core.Bool.{true, false≢true}
use mathlib.Core.List.{List}
use lib.Seq.{get_or-set_other}
use Rattle.ids.specs.Keys.{room_at, free_of, lives_in}
use Rattle.ids.specs.declared.Key.{Key}
use Rattle.ids.proofs.Names as names
use Rattle.ids.proofs.Places.{gives}
use Rattle.station.specs.declared.Station.{Station}
use Rattle.laws.specs.Calls.{Call, after, Kind, keys_of, lives, Told, Target, target_of, Touches, Stays, Untouched}
use Rattle.laws.proofs.lemmas.Deeds.{Deed, leaves, changes, removes, adds, turns, deed}

-- ---- slots

module _ (ks : List Key) (j h : ℕ) (l : lives_in ks j h ≡ true) where
  -- another id that lives is in another slot
  slots_apart : (i g : ℕ) → lives_in ks i g ≡ true → (j ≡ i → h ≡ g → ⊥) → j ≡ i → ⊥
  slots_apart i g m n p = n p (sym (names.living ks j h l).agrees ∙ (rw (sym p) at (names.living ks i g m).agrees))

  -- an add takes no slot in which an id lives
  pub slot_taken : (i g : ℕ) → free_of 0 ks ≡ room_at i g → j ≡ i → ⊥
  slot_taken i g e p = false≢true (sym (gives ks i g e).empty ∙ (rw p at (names.living ks j h l).occupied))

-- ---- entries

stays :
    {A : Type 0} {k : Kind} {ks ls : List Key} {es fs : List A} {a : Target} {o : Told} → Deed k ks es a o ls fs → (j h : ℕ) → (Touches a k j h → ⊥)
    → lives_in ks j h ≡ true → Stays ks ls es fs j h
stays (leaves a o u) j h n l = record { same_key = λ d. refl; same_entry = λ d. refl; alive = l }
stays {ks = ks} {es = es} (changes i g x m) j h n l = record {
  same_key = λ d. refl;
  same_entry = λ d. get_or-set_other es i j x d (slots_apart ks j h l i g m (λ p q. n cc));
  alive = l;
}
stays {ks = ks} (removes i g m) j h n l = record {
  same_key = λ d. get_or-set_other ks i j _ d (slots_apart ks j h l i g m (λ p q. n cc));
  same_entry = λ d. refl;
  alive = names.remove_others ks i g m j h (λ p q. n cc) ∙ l;
}
stays {ks = ks} {es = es} (adds i g x e) j h n l = record {
  same_key = λ d. get_or-set_other ks i j _ d (slot_taken ks j h l i g e);
  same_entry = λ d. get_or-set_other es i j x d (slot_taken ks j h l i g e);
  alive = names.add_others ks i g e j h (λ p q. slot_taken ks j h l i g e p) ∙ l;
}
stays (turns fs) j h n l = absurd (n tt)

module _ (k : Kind) (st : Station) where
  -- two different ids that both live name different slots
  pub two_slots : (i g j h : ℕ) → lives k st i g ≡ true → lives k st j h ≡ true → (i ≡ j → g ≡ h → ⊥) → i ≡ j → ⊥
  two_slots i g j h l m = slots_apart (keys_of k st) i g l j h m

  pub apart : (c : Call) (j h : ℕ) → (Touches (target_of c) k j h → ⊥) → lives k st j h ≡ true → Untouched k st (after st c) j h
  apart c j h n l = stays (deed k st c) j h n l
