-- What stands in a slot, read by an id that lives: a call that does not act on it leaves it there, and a lookup by the
-- id gives it. Assumes nothing.
use Prim.Native.Nat.{ℕ, zero, suc, ◌<◌, suc-le-suc}
use native.Mathlib.Omega.{arith}
use mathlib.Core.Path.{◌≡◌, ap, ◌∙◌}
use mathlib.Core.Bool.{true}
use mathlib.Core.List.{List, [], ◌∷◌}
use lib.ListN.{length, set}
use Rattle.ids.specs.Keys.{lives_in, used_at}
use Rattle.ids.specs.Lists.{read_at}
use Rattle.ids.specs.declared.Key.{Key}
use Rattle.ids.proofs.Names as names
use Rattle.ids.proofs.Places.{read_set_same, read_set_other, find_living, found_case}
use Rattle.judge.specs.Answer.{Answer, accepted, refused}
use Rattle.judge.specs.Numbers.{NEVER_ISSUED}
use Rattle.times.specs.declared.time.ClockId.{ClockId}
use Rattle.ids.specs.Tables.{on_found, read_found, where_is}
use Rattle.clock_table.specs.ClockTables.{ClockDone, clock_table}
use Rattle.clock.specs.declared.Clock.{Clock}
use Rattle.clock_table.specs.declared.Clocks.{Clocks}
use Rattle.station.specs.declared.Station.{Station}
use Rattle.laws.specs.Calls.{Call, after, Kind, Entry, keys_of, entries_of, lives, Told, Target, target_of, Touches}
use Rattle.laws.proofs.Apart.{slot_taken, two_slots}
use Rattle.laws.proofs.lemmas.Deeds.{Deed, leaves, changes, removes, adds, turns, deed}

-- ---- a slot of a list

-- x stands in slot i; NEVER_ISSUED is what a lookup past the end is refused by
abbrev pub Holds : {A : Type 0} → List A → ℕ → A → Type 0
Holds l i x = read_at (refused NEVER_ISSUED) (λ y. accepted y) l i ≡ accepted x

module _ {A : Type 0} where
  pub holds_read : {B : Type 0} (n : B) (f : A → B) (l : List A) (i : ℕ) (x : A) → Holds l i x → read_at n f l i ≡ f x
  unfolding read_at
  holds_read n f [] i x h = absurd (cc)
  holds_read n f (y ∷ l) zero x h = let e : y ≡ x = cc in ap f e
  holds_read n f (y ∷ l) (suc i) x h = holds_read n f l i x h

  pub holds_inside : (l : List A) (i : ℕ) (x : A) → Holds l i x → i < length l
  unfolding read_at
  holds_inside [] i x h = absurd (cc)
  holds_inside (y ∷ l) zero x h = omega arith
  holds_inside (y ∷ l) (suc i) x h = suc-le-suc (holds_inside l i x h)

  pub holds_same : (l : List A) (i : ℕ) (x y : A) → Holds l i x → Holds (set l i y) i y
  holds_same l i x y h = read_set_same (refused NEVER_ISSUED) (λ z. accepted z) l i y (holds_inside l i x h)

  pub holds_other : (l : List A) (i j : ℕ) (x y : A) → (j ≡ i → ⊥) → Holds l j x → Holds (set l i y) j x
  holds_other l i j x y n h = read_set_other (refused NEVER_ISSUED) (λ z. accepted z) l i j y n ∙ h

-- ---- a call that acts elsewhere

pub lives_used : (ks : List Key) (i g : ℕ) → lives_in ks i g ≡ true → used_at ks i ≡ true
lives_used ks i g l = (names.living ks i g l).occupied

module _ (k : Kind) (st : Station) (j h : ℕ) (l : lives k st j h ≡ true) where
  held :
      {ls : List Key} {fs : List (Entry k)} {a : Target} {o : Told} → Deed k (keys_of k st) (entries_of k st) a o ls fs → (Touches a k j h → ⊥)
      → (x : Entry k) → Holds (entries_of k st) j x → Holds fs j x
  held (leaves a o u) n x e = e
  held (changes i g y m) n x e = holds_other (entries_of k st) i j x y (λ p. two_slots k st j h i g l m (λ q r. n cc) p) e
  held (removes i g m) n x e = e
  held (adds i g y f) n x e = holds_other (entries_of k st) i j x y (slot_taken (keys_of k st) j h l i g f) e
  held (turns fs) n x e = absurd (n tt)

  pub stays_held : (c : Call) → (Touches (target_of c) k j h → ⊥) → (x : Entry k) → Holds (entries_of k st) j x → Holds (entries_of k (after st c)) j x
  stays_held c n = held (deed k st c) n

-- ---- the clock of an id

-- the id lives, and c is its clock
pub record Names (t : Clocks) (id : ClockId) (c : Clock) : Type 0 where
  pub lives : lives_in t.keys id.slot id.generation ≡ true
  pub holds : Holds t.clocks id.slot c

module _ (t : Clocks) (id : ClockId) (c : Clock) where
  abbrev Tells : Answer ℕ → Type 0
  Tells w = read_found clock_table t w (λ x. x) ≡ accepted c

  -- as a lookup tells it
  pub names_of : read_found clock_table t (where_is clock_table t id) (λ x. x) ≡ accepted c → Names t id c
  names_of =
      found_case t.keys id.slot id.generation (λ w. Tells w → Names t id c)
      (λ n y l e. absurd (cc))
      (λ l e. record { lives = l; holds = e })

  module _ (n : Names t id c) where
    pub names_where : where_is clock_table t id ≡ accepted id.slot
    names_where = find_living t.keys id.slot id.generation n.lives

    pub names_read : {A : Type 0} (f : Clock → A) → read_found clock_table t (where_is clock_table t id) f ≡ accepted (f c)
    names_read f = rw names_where (holds_read (refused NEVER_ISSUED) (λ x. accepted (f x)) t.clocks id.slot c n.holds)

    pub names_on : (f : ℕ → Clock → ClockDone) → on_found clock_table t (where_is clock_table t id) f ≡ f id.slot c
    names_on f = rw names_where (holds_read _ (f id.slot) t.clocks id.slot c n.holds)
