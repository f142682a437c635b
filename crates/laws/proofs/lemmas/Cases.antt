-- What a test, a call by an id, an add, a turn and a frame can come to: what holds of each case holds of all. RULES,
-- frame-refused. Assumes nothing.
use Prim.Native.Nat.{ℕ, zero, suc, ◌+◌}
use native.Mathlib.Omega.{arith}
use mathlib.Core.Path.{◌≡◌, refl, ap}
use mathlib.Core.Bool.{Bool, true, false, cond}
use mathlib.Core.List.{List, [], ◌∷◌}
use lib.ListN.{set}
use lib.Dec.{eqb}
use lib.Ieee.{Float, lt}
use borrow.Author.Tests.{eqb-true, eqb-false, ne_eqb}
use Rattle.std.specs.Prelude.{Option}
use Rattle.ids.specs.Keys.{Place, place, room_at, free_of, lives_in}
use Rattle.ids.specs.Lists.{read_at}
use Rattle.ids.specs.Tables.{Table, Added, placed_in, on_found, refused_add, refused_call, where_is, added_to}
use Rattle.ids.specs.declared.Key.{Key}
use Rattle.ids.proofs.Places.{found_case, room_number}
use Rattle.judge.specs.Answer.{Answer, accepted, refused, is_refused}
use Rattle.judge.specs.Judge.{Conditions, of_add, number_of, no_faults, dt_faults, first_fault}
use Rattle.judge.specs.Numbers.{NO_ROOM, TOO_FAR, TICKS_FULL, NEVER_ISSUED}
use Rattle.judge.specs.declared.Faults.{Faults}
use Rattle.judge.proofs.Judged.{none_set, nothing_wrong}
use Rattle.ticks.specs.WholeTicks.{taken_of}
use Rattle.ticks.specs.declared.Position.{Position}
use Rattle.values.specs.declared.clock_speed.ClockSpeed.{ClockSpeed}
use Rattle.parameter.specs.declared.Parameter.{Parameter}
use Rattle.info.specs.declared.info.Info.{Info}
use Rattle.clock.specs.OneClock.{Ticked, by_turn, tick_of, update_clock_of}
use Rattle.clock.specs.declared.Clock.{Clock}
use Rattle.modulator_table.specs.declared.Modulators.{Modulators}
use Rattle.modulator_table.specs.declared.Slot.{Slot}
use Rattle.station.specs.Frames.{Framed, Try, went, stopped, seeing, watching, turned, modulators_turned, placed, then, clock_turn, clock_turns, all_turns, closed, clocks_turned, undone_of, framed, frame_of}
use Rattle.station.specs.Stations.{info_in}
use Rattle.station.specs.Turns.{turn_clock}
use Rattle.station.specs.declared.Station.{Station}

-- ---- a test, and an entry

pub cond_case : {A : Type 0} (P : A → Type 0) (x y : A) → P x → P y → (b : Bool) → P (cond b x y)
cond_case P x y p q true = p
cond_case P x y p q false = q

pub read_case : {A B : Type 0} (P : B → Type 0) (n : B) (f : A → B) → P n → ((x : A) → P (f x)) → (l : List A) (i : ℕ) → P (read_at n f l i)
unfolding read_at
read_case P n f p h [] i = p
read_case P n f p h (x ∷ l) zero = h x
read_case P n f p h (x ∷ l) (suc i) = read_case P n f p h l i

-- the slot of an entry, where it is in use
pub slot_case : {A B : Type 0} (P : B → Type 0) (n : B) (f : A → B) (ks : List Key) (l : List A) (i : ℕ) → P n → P (read_at n f l i) → P (read_at n (λ k. cond k.used (read_at n f l i) n) ks i)
slot_case P n f ks l i p q = read_case P n (λ k. cond k.used (read_at n f l i) n) p (λ k. cond_case P (read_at n f l i) n q p k.used) ks i

-- ---- a call by an id, and an add

module _ {T E I D : Type 0} (k : Table T E I D) (t : T) where
  abbrev pub Alive : I → Type 0
  Alive id = lives_in (k.keys_of t) (k.slot_in id) (k.generation_in id) ≡ true

  -- a call by an id is refused, or is what it makes of the entry in its slot, where the id lives
  pub found_lem :
      (id : I) (P : D → Type 0) (f : ℕ → E → D) → ((n : ℕ) → (n ≡ 0 → ⊥) → P (refused_call k t n)) → (Alive id → (e : E) → P (f (k.slot_in id) e))
      → P (on_found k t (where_is k t id) f)
  found_lem id P f r h =
      found_case (k.keys_of t) (k.slot_in id) (k.generation_in id) (λ w. P (on_found k t w f)) (λ n z l. r n z) (λ l.
      read_case P (refused_call k t NEVER_ISSUED) (f (k.slot_in id)) (r NEVER_ISSUED (λ z. omega arith)) (h l) (k.entries_of t) (k.slot_in id))

  -- an add is refused, or takes the lowest free slot, with arguments that are not refused
  pub added_lem :
      (f : Faults) (e : E) (P : Added T I → Type 0) → ((n : ℕ) → (n ≡ 0 → ⊥) → P (refused_add k t n))
      → ((i g : ℕ) → f ≡ no_faults → free_of 0 (k.keys_of t) ≡ room_at i g → P (placed_in k t e (room_at i g))) → P (added_to k t f e)
  added_lem f e P r h = go (eqb (number_of c) 0) (eqb-true (number_of c) 0) (eqb-false (number_of c) 0)
    where
      c : Conditions
      c = of_add f (is_refused (free_of 0 (k.keys_of t)))

      put : f ≡ no_faults → (w : Answer Place) → free_of 0 (k.keys_of t) ≡ w → P (placed_in k t e w)
      put z (accepted (place i g)) q = h i g z q
      put z (refused n) q = r n (λ y. let l : n ≡ NO_ROOM = room_number (k.keys_of t) 0 n q in omega arith)

      go :
          (b : Bool) → (b ≡ true → number_of c ≡ 0) → (b ≡ false → number_of c ≡ 0 → ⊥)
          → P (cond b (placed_in k t e (free_of 0 (k.keys_of t))) (refused_add k t (number_of c)))
      go true y n = put (ap (λ (d : Conditions). d.faults) (nothing_wrong c (y refl))) (free_of 0 (k.keys_of t)) refl
      go false y n = r (number_of c) (n refl)

-- ---- a turn of a clock, and all of them

-- a turn is refused by TOO_FAR or TICKS_FULL, and never by 0
pub turn_case : (info : Info) (c : Clock) (dt : Float) (P : Answer Ticked → Type 0) → ((t : Ticked) → P (accepted t)) → ((n : ℕ) → (n ≡ 0 → ⊥) → P (refused n)) → P (turn_clock info c dt)
unfolding turn_clock update_clock_of tick_of number_of
turn_case info c dt P h r = cond_case P _ _ (by_turn_lem _ _ (lt _ _) (taken_of _ _)) (h _) c.ticking
  where
    by_turn_lem : (p : Parameter ClockSpeed) (told far : Bool) (t : Answer Position) → P (by_turn p told far t)
    by_turn_lem p told true t = r TOO_FAR (λ e. omega arith)
    by_turn_lem p told false (refused n) = r TICKS_FULL (λ e. omega arith)
    by_turn_lem p told false (accepted to) = h _

-- what holds of the clocks, where no turn was refused
abbrev pub Ends : (List Clock → Type 0) → Try → Type 0
Ends Q (went ds qs) = Q ds
Ends Q (stopped n) = n ≡ 0 → ⊥

pub next : (Q R : List Clock → Type 0) (f : List Clock → List (Option ℕ) → Try) → ((ds : List Clock) (qs : List (Option ℕ)) → Q ds → Ends R (f ds qs)) → (r : Try) → Ends Q r → Ends R (then f r)
next Q R f h (went ds qs) k = h ds qs k
next Q R f h (stopped n) k = k

pub weaker : (Q R : List Clock → Type 0) → ((ds : List Clock) → Q ds → R ds) → (r : Try) → Ends Q r → Ends R r
weaker Q R h (went ds qs) k = h ds k
weaker Q R h (stopped n) k = k

module _ (info : Info) (dt : Float) (keys : List Key) where
  -- whatever the slot's clock becomes
  pub turn_any : (i : ℕ) (cs : List Clock) (rs : List (Option ℕ)) (Q : List Clock → Type 0) → Q cs → ((d : Clock) → Q (set cs i d)) → Ends Q (clock_turn info dt keys i cs rs)
  turn_any i cs rs Q q h = slot_case (Ends Q) (went cs rs) turn keys cs i q (read_case (Ends Q) (went cs rs) turn q (λ c. turn_case (watching info cs) c dt (λ m. Ends Q (placed i cs rs m)) (λ t. h t.clock) (λ n y. y)) cs i)
    where
      turn : Clock → Try
      turn c = placed i cs rs (turn_clock (watching info cs) c dt)

  turns_numbered : (n i : ℕ) (cs : List Clock) (rs : List (Option ℕ)) → Ends (λ ds. Unit {0}) (clock_turns info dt keys n i cs rs)
  unfolding clock_turns
  turns_numbered zero i cs rs = tt
  turns_numbered (suc n) i cs rs =
      next (λ ds. Unit {0}) (λ ds. Unit {0}) (clock_turns info dt keys n (i + 1)) (λ ds qs k. turns_numbered n (i + 1) ds qs) (clock_turn info dt keys i cs rs)
      (turn_any i cs rs (λ ds. Unit {0}) tt (λ d. tt))

-- ---- a frame

-- the modulators after these turns
abbrev pub turned_to : Station → List Slot → Modulators
turned_to st ss = record { keys = st.modulators.keys; slots = ss }

module _ (st : Station) (dt : Float) where
  -- the slots after a frame's turns
  abbrev pub turned_slots : List Slot
  turned_slots = turned (info_in st) dt st.modulators

  -- and what the clocks' turns gave: they see every modulator's new value
  abbrev pub turned_clocks : Try
  turned_clocks = all_turns (seeing (info_in st) turned_slots) dt st.clocks.keys st.clocks.clocks

  -- undone, with a number, or of a dt that is not refused and with every clock's turn taken
  pub frame_case :
      (P : Framed → Type 0)
      → (dt_faults dt ≡ no_faults → (cs : List Clock) (rs : List (Option ℕ)) → turned_clocks ≡ went cs rs
      → P (record { refused = 0; station = record { clocks = record { keys = st.clocks.keys; clocks = cs }; modulators = turned_to st turned_slots }; reports = rs }))
      → ((n : ℕ) → (n ≡ 0 → ⊥) → P (undone_of st n)) → P (frame_of st dt)
  unfolding frame_of modulators_turned clocks_turned
  frame_case P h u = go (eqb n 0) (eqb-true n 0) (eqb-false n 0)
    where
      n : ℕ
      n = first_fault (dt_faults dt)

      by : dt_faults dt ≡ no_faults → (r : Try) → turned_clocks ≡ r → Ends (λ ds. Unit {0}) r → P (framed st (turned_to st turned_slots) (closed st.clocks r))
      by z (went cs rs) e k = h z cs rs e
      by z (stopped m) e k = rw (ne_eqb m 0 k) (u m k)

      go : (b : Bool) → (b ≡ true → n ≡ 0) → (b ≡ false → n ≡ 0 → ⊥) → P (cond b (framed st (turned_to st turned_slots) (closed st.clocks turned_clocks)) (undone_of st n))
      go true y x = by (none_set (dt_faults dt) (y refl)) turned_clocks refl (turns_numbered _ dt st.clocks.keys 16 0 st.clocks.clocks _)
      go false y x = u n (x refl)
