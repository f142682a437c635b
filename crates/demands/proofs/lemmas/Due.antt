-- What a station says of a clock time, while the clock goes on the grid: due exactly where the clock's place reaches
-- the time's. RULES, now. Assumes nothing.
use Prim.Native.Nat.{ℕ, zero, suc, ◌^◌, ◌<◌, compare}
use native.Mathlib.Nat.{le_of_eq, le_of_lt, mul-lt-mul_of_pos_right}
use mathlib.Core.Path.{◌≡◌, refl, sym, ap, ◌∙◌, subst}
use mathlib.Core.Bool.{false, cond}
use mathlib.Core.List.{List, [], ◌∷◌, map}
use lib.Dec.{leb}
use lib.Pow.{pow_pos}
use lib.Ieee.{Float}
use borrow.Author.Tests.{le-leb, lt-leb}
use Rattle.doubles.specs.Doubles.{scaled}
use Rattle.ids.specs.Lists.{read_at}
use Rattle.times.specs.Times.{time_at, place_at}
use Rattle.times.specs.declared.time.ClockId.{ClockId}
use Rattle.times.specs.declared.start_time.When.TheVariants.{Now, Later, Never}
use Rattle.times.proofs.duration.Compares.{compare_lt, compare_eq, compare_gt}
use Rattle.times.proofs.time.Places.{three, Fraction, ordered, order_places}
use Rattle.info.specs.Infos.{at_or_past, due_of, reached_of, when_to_start_of}
use Rattle.clock.specs.OneClock.{info_of, position_of}
use Rattle.station.specs.Stations.{info_in}
use Rattle.station.specs.declared.Station.{Station}
use Rattle.laws.proofs.lemmas.Entries.{holds_read, names_where}
use Rattle.demands.specs.Served.{awaited}
use Rattle.demands.proofs.lemmas.Exact.{parts_scaled, parts_value}
use Rattle.demands.proofs.lemmas.Going.{Going}

-- ---- the start test

read_map : {A B C : Type 0} (n : C) (f : B → C) (h : A → B) (l : List A) (i : ℕ) → read_at n f (map h l) i ≡ read_at n (λ x. f (h x)) l i
unfolding read_at
read_map n f h [] i = refl
read_map n f h (x ∷ l) zero = refl
read_map n f h (x ∷ l) (suc i) = read_map n f h l i

-- at or past, as one test of two numbers
at_or_past_lem : (a b : ℕ) → at_or_past (ordered (compare a b)) ≡ leb b a
at_or_past_lem a b =
    three a b
    (λ h. rw (compare_lt a b h, lt-leb b a h))
    (λ h. rw (compare_eq a b h, le-leb b a (le_of_eq (sym h))))
    (λ h. rw (compare_gt a b h, le-leb b a (le_of_lt h)))

module _ (st : Station) (id : ClockId) (n : ℕ) (k : Going st id n) (tick : ℕ) (g : Float) (F : Fraction g) where
  -- the clock's own answer
  reached : reached_of (info_of k.clock) (awaited id tick g) ≡ leb (place_at tick g) n
  reached =
      let c = position_of k.clock.state in
      let s = k.standing in
      let l : scaled c.fraction < 2 ^ 1074 = subst (λ (z : ℕ). z < 2 ^ 1074) (sym (parts_scaled c.fraction false s.part s.parts)) (mul-lt-mul_of_pos_right s.short (pow_pos 1042)) in
      ap at_or_past (order_places (time_at id c.ticks c.fraction) (awaited id tick g) refl (record { value = parts_value c.fraction false s.part s.parts; below = l }) F)
      ∙ at_or_past_lem (place_at c.ticks c.fraction) (place_at tick g)
      ∙ ap (leb (place_at tick g)) s.place

  pub due : when_to_start_of (info_in st) (awaited id tick g) ≡ cond (leb (place_at tick g) n) Now Later
  unfolding when_to_start_of info_in
  due =
      rw (names_where st.clocks id k.clock k.names, read_map Never (λ c. due_of c (awaited id tick g)) info_of st.clocks.clocks id.slot, holds_read Never (λ c. due_of (info_of c) (awaited id tick g)) st.clocks.clocks id.slot k.clock k.names.holds, k.ticking, reached)
