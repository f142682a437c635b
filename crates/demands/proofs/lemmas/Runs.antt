-- Over any run: the clock's place is the sum of the advances, and the start test at the k-th accepted update asks
-- whether the sum of the first k reaches what is awaited. RULES, exact-sum and begins. Assumes nothing.
use Prim.Native.Nat.{ℕ, ◌+◌}
use native.Mathlib.Nat.{add-zero, zero-add, add_assoc}
use mathlib.Core.Path.{◌≡◌, refl, sym, ap, ◌∙◌}
use mathlib.Core.Logic.{◌⊎◌, inl, inr}
use mathlib.Core.Bool.{Bool, true, false, not, ◌&&◌, ◌||◌, cond, true≢false, false≢true}
use mathlib.Core.List.{List, [], ◌∷◌, ◌++◌, map}
use lib.Dec.{eqb, leb}
use lib.Ieee.{Float}
use Rattle.doubles.specs.Doubles.{scaled}
use Rattle.judge.specs.Judge.{bad_dt}
use Rattle.times.specs.Times.{place_at}
use Rattle.times.specs.declared.time.ClockId.{ClockId}
use Rattle.times.specs.declared.start_time.When.TheVariants.{Now, Later}
use Rattle.parameter.specs.Courses.{is_now}
use Rattle.clock.specs.OneClock.{advance_of}
use Rattle.station.specs.Frames.{frame_of}
use Rattle.station.specs.declared.Station.{Station}
use Rattle.laws.specs.Calls.{Call, clock, modulator, frame, after}
use Rattle.laws.specs.SoundStation.{All}
use Rattle.laws.proofs.lemmas.Entries.{names_read}
use borrow.Author.Tests.{not-true}
use Rattle.std.specs.List.{position_or_len}
use Rattle.std.proofs.lemmas.List.{length-map}
use Rattle.times.proofs.time.Places.{Fraction}
use Rattle.demands.specs.Events.{Event, call, update, after_events, clock_in, moves, advance_by, advance_in, advances_of, total, sums_from, in_order, tests_of, first_pass, first_reach}
use Rattle.demands.specs.Served.{Kept, Grid, awaited}
use Rattle.demands.proofs.lemmas.Due.{due}
use Rattle.demands.proofs.lemmas.Going.{Going, call_goes}

-- ---- lists

total_append : (xs ys : List Float) → total (xs ++ ys) ≡ total xs + total ys
unfolding total
total_append [] ys = sym (zero-add (total ys))
total_append (x ∷ xs) ys = ap (λ (z : ℕ). scaled x + z) (total_append xs ys) ∙ sym (add_assoc (scaled x) (total xs) (total ys))

pub grids : (xs ys : List Float) → All Grid (xs ++ ys) → All Grid xs × All Grid ys
grids [] ys h = (tt, h)
grids (x ∷ xs) ys h = let r = grids xs ys h.1 in ((h.0, r.0), r.1)

-- the sum that an owed update is to see
abbrev pub owing : Bool → ℕ → List ℕ
owing true n = n ∷ []
owing false n = []

-- ---- the clock's place

module _ (id : ClockId) where
  pub run_goes : (st : Station) (n : ℕ) (es : List Event) → Going st id n → Kept id es → All Grid (advances_of id st es) → Going (after_events st es) id (n + total (advances_of id st es))
  unfolding after_events advances_of total
  run_goes st n [] g k a = rw (add-zero n) g
  run_goes st n (update dt ∷ es) g k a = run_goes st n es g k a
  run_goes st n (call c ∷ es) g k a =
      let xs = advance_in id st c in
      let ys = advances_of id (after st c) es in
      let b = grids xs ys a in
      rw (total_append xs ys, ← add_assoc n (total xs) (total ys)) (run_goes (after st c) (n + total xs) es (call_goes st id n g c k.0 b.0) k.1 b.1)

  -- ---- the sums, one for each update

  -- an accepted frame has one advance, and any other call has none
  shape : (st : Station) (m : ℕ) (c : Call) → Going (after st c) id m → ((moves st c ≡ true) × ((x : Float) × (advance_in id st c ≡ x ∷ []))) ⊎ ((moves st c ≡ false) × (advance_in id st c ≡ []))
  unfolding moves advance_in
  shape st m (clock x) g = inr (refl, refl)
  shape st m (modulator x) g = inr (refl, refl)
  shape st m (frame dt) g = go (eqb (frame_of st dt).refused 0)
    where
      seen : advance_by (clock_in (frame_of st dt).station id) dt ≡ advance_of g.clock.speed dt ∷ []
      seen = rw (names_read (frame_of st dt).station.clocks id g.clock g.names (λ c. c))

      go :
          (b : Bool) → ((b ≡ true) × ((x : Float) × (cond b (advance_by (clock_in (frame_of st dt).station id) dt) [] ≡ x ∷ [])))
          ⊎ ((b ≡ false) × (cond b (advance_by (clock_in (frame_of st dt).station id) dt) [] ≡ []))
      go true = inl (refl, (advance_of g.clock.speed dt, seen))
      go false = inr (refl, refl)

  -- a call in order moves the sums on
  pub sums_call :
      (st : Station) (n m : ℕ) (c : Call) (owed : Bool) (ys : List Float) → Going (after st c) id m → (owed && moves st c) ≡ false
      → owing (owed || moves st c) (n + total (advance_in id st c)) ++ sums_from (n + total (advance_in id st c)) ys ≡ owing owed n ++ sums_from n (advance_in id st c ++ ys)
  unfolding total sums_from
  sums_call st n m c owed ys g o = go (shape st m c g) owed o
    where
      go :
          ((moves st c ≡ true) × ((x : Float) × (advance_in id st c ≡ x ∷ []))) ⊎ ((moves st c ≡ false) × (advance_in id st c ≡ [])) → (owed : Bool) → (owed && moves st c) ≡ false
          → owing (owed || moves st c) (n + total (advance_in id st c)) ++ sums_from (n + total (advance_in id st c)) ys ≡ owing owed n ++ sums_from n (advance_in id st c ++ ys)
      go (inl r) true o = absurd (true≢false (sym r.0 ∙ o))
      go (inl r) false o = rw (r.0, r.1.1, add-zero (scaled r.1.0))
      go (inr r) true o = rw (r.1, add-zero n)
      go (inr r) false o = rw (r.0, r.1, add-zero n)

-- ---- what `in_order` says

both : (a b : Bool) → (a && b) ≡ true → (a ≡ true) × (b ≡ true)
both true true h = (refl, refl)
both true false h = absurd (false≢true h)
both false b h = absurd (false≢true h)

pub order_call : (st : Station) (c : Call) (es : List Event) (owed : Bool) → in_order owed st (call c ∷ es) ≡ true → ((owed && moves st c) ≡ false) × (in_order (owed || moves st c) (after st c) es ≡ true)
unfolding in_order
order_call st c es owed h = let b = both (not (owed && moves st c)) (in_order (owed || moves st c) (after st c) es) h in (not-true (owed && moves st c) b.0, b.1)

-- an update in order is refused, or owed
pub order_update :
    {P : Type 0} (st : Station) (dt : Float) (es : List Event) (owed : Bool) → in_order owed st (update dt ∷ es) ≡ true → (bad_dt dt ≡ true → in_order owed st es ≡ true → P)
    → (bad_dt dt ≡ false → owed ≡ true → in_order false st es ≡ true → P) → P
unfolding in_order
order_update {P} st dt es owed h r a = go (bad_dt dt) owed refl refl h
  where
    go : (b o : Bool) → bad_dt dt ≡ b → owed ≡ o → ((o || b) && in_order (o && b) st es) ≡ true → P
    go true true e f h = r e (rw f h)
    go true false e f h = r e (rw f h)
    go false true e f h = a e f h
    go false false e f h = absurd (false≢true h)

-- ---- the start tests

now_is : (b : Bool) → is_now (cond b Now Later) ≡ b
now_is true = refl
now_is false = refl

module _ (id : ClockId) (tick : ℕ) (g : Float) (F : Fraction g) where
  pub run_tests :
      (st : Station) (n : ℕ) (es : List Event) (owed : Bool) → Going st id n → Kept id es → All Grid (advances_of id st es) → in_order owed st es ≡ true
      → tests_of (awaited id tick g) st es ≡ map (leb (place_at tick g)) (owing owed n ++ sums_from n (advances_of id st es))
  unfolding tests_of advances_of in_order sums_from
  run_tests st n [] true k h a o = absurd (false≢true o)
  run_tests st n [] false k h a o = refl
  run_tests st n (update dt ∷ es) owed k h a o =
      order_update st dt es owed o (λ b r. rw b (run_tests st n es owed k h a r))
      (λ b w r. rw (b, w, due st id n k tick g F, run_tests st n es false k h a r, now_is (leb (place_at tick g) n)))
  run_tests st n (call c ∷ es) owed k h a o =
      let xs = advance_in id st c in
      let ys = advances_of id (after st c) es in
      let b = grids xs ys a in
      let q = order_call st c es owed o in
      let m = call_goes st id n k c h.0 b.0 in
      run_tests (after st c) (n + total xs) es (owed || moves st c) m h.1 b.1 q.1 ∙ ap (map (leb (place_at tick g))) (sums_call id st n (n + total xs) c owed ys m q.0)

-- the first that passes is the first that reaches
pub first_same : (w : ℕ) (ns : List ℕ) → first_pass (map (leb w) ns) ≡ first_reach w ns
unfolding first_pass first_reach
first_same w ns = rw (passing ns, length-map ns (leb w))
  where
    passing : (ns : List ℕ) → position_or_len (λ b. b) (map (leb w) ns) ≡ position_or_len (leb w) ns
    passing [] = refl
    passing (n ∷ ns) = ap (λ (k : ℕ). cond (not (leb w n)) (1 + k) 0) (passing ns)
