-- Over any run, a parameter that waits answers each update as the sum of the advances leads to, whatever its kind.
-- RULES, begins. Assumes nothing.
use Prim.Native.Nat.{ℕ, ◌+◌}
use mathlib.Core.Path.{◌≡◌, refl, ap, ◌∙◌}
use mathlib.Core.Bool.{Bool, true, false, ◌||◌, cond, false≢true}
use mathlib.Core.List.{List, [], ◌∷◌, ◌++◌}
use lib.Dec.{leb}
use lib.Ieee.{Float}
use Rattle.times.specs.Times.{place_at}
use Rattle.times.specs.declared.time.ClockId.{ClockId}
use Rattle.times.specs.declared.start_time.When.{When}
use Rattle.times.specs.declared.start_time.When.TheVariants.{Now, Later}
use Rattle.times.specs.declared.start_time.StartTime.TheVariants.{At}
use Rattle.times.specs.declared.tween.Tween.{Tween}
use Rattle.values.specs.Tweenables.{Tweens}
use Rattle.parameter.specs.Parameters.{Advanced, try_update_of}
use Rattle.parameter.specs.declared.Parameter.{Parameter}
use Rattle.info.specs.ParametersIn.{source_of}
use Rattle.station.specs.Stations.{info_in}
use Rattle.station.specs.declared.Station.{Station}
use Rattle.laws.specs.Calls.{after}
use Rattle.laws.specs.SoundStation.{All}
use Rattle.times.proofs.time.Places.{Fraction}
use Rattle.demands.specs.Events.{Event, call, update, moves, advance_in, advances_of, total, sums_from, in_order, dts_of}
use Rattle.demands.specs.Kinds.{Progress, progress_in, course_of, course_by_sum, progress_of, passed, progress_by_sums}
use Rattle.demands.specs.Served.{Kept, Grid, awaited}
use Rattle.demands.proofs.lemmas.Due.{due}
use Rattle.demands.proofs.lemmas.Going.{Going, call_goes}
use Rattle.demands.proofs.lemmas.Runs.{grids, owing, sums_call, order_call, order_update}
use Rattle.demands.proofs.lemmas.Shapes.{refuses, accepts}
use Rattle.demands.proofs.lemmas.Timing.{Waiting, sees_time, passes, keeps}

module _ {T : Type 0} (k : Tweens T) (id : ClockId) (tick : ℕ) (g : Float) (F : Fraction g) (v : Tween) (s : v.start_time ≡ At (awaited id tick g)) where
  -- the awaited place
  abbrev w : ℕ
  w = place_at tick g

  -- what an update answers by the sum
  abbrev answer : Station → ℕ → Parameter T → Float → Advanced T
  answer st n p dt = try_update_of k p dt (cond (leb w n) Now Later) (source_of (info_in st) p)

  pub run_course :
      (st : Station) (n : ℕ) (p : Parameter T) (es : List Event) → Going st id n → Kept id es → All Grid (advances_of id st es) → Waiting k (awaited id tick g) v s p
      → course_of k st p es ≡ course_by_sum k id w n st p es
  unfolding course_of course_by_sum advances_of
  run_course st n p [] q h a l = refl
  run_course st n p (update dt ∷ es) q h a l =
      let r = answer st n p dt in
      ap (λ (r : Advanced T). r ∷ course_of k st r.parameter es) (sees_time k (awaited id tick g) v s (info_in st) p dt l ∙ ap (λ (x : When). try_update_of k p dt x (source_of (info_in st) p)) (due st id n q tick g F))
      ∙ ap (λ (rs : List (Advanced T)). r ∷ rs) (run_course st n r.parameter es q h a (keeps k (awaited id tick g) v s p dt (leb w n) (source_of (info_in st) p) l))
  run_course st n p (call c ∷ es) q h a l =
      let b = grids (advance_in id st c) (advances_of id (after st c) es) a in
      run_course (after st c) (n + total (advance_in id st c)) p es (call_goes st id n q c h.0 b.0) h.1 b.1 l

  pub run_progress :
      (st : Station) (n : ℕ) (p : Parameter T) (es : List Event) (owed : Bool) → Going st id n → Kept id es → All Grid (advances_of id st es) → Waiting k (awaited id tick g) v s p → in_order owed st es ≡ true
      → progress_of (course_by_sum k id w n st p es) ≡ progress_by_sums w (progress_in p.state) (owing owed n ++ sums_from n (advances_of id st es)) (dts_of es)
  unfolding course_by_sum progress_of progress_by_sums advances_of sums_from dts_of in_order
  run_progress st n p [] true q h a l o = absurd (false≢true o)
  run_progress st n p [] false q h a l o = refl
  run_progress st n p (update dt ∷ es) owed q h a l o =
      let i = source_of (info_in st) p in
      let r = answer st n p dt in
      let m = keeps k (awaited id tick g) v s p dt (leb w n) i l in
      let u = passes k (awaited id tick g) v s p dt (leb w n) i l in
      let ns = sums_from n (advances_of id st es) in
      order_update st dt es owed o
      (λ b e. let z = refuses k p dt (cond (leb w n) Now Later) i b in rw (z.0, b) (run_progress st n r.parameter es owed q h a m e ∙ ap (λ (x : Parameter T). progress_by_sums w (progress_in x.state) (owing owed n ++ ns) (dts_of es)) z.1))
      (λ b e f. rw (accepts k p dt (cond (leb w n) Now Later) i b, b, e, u b) (ap (λ (xs : List Progress). passed (leb w n) (progress_in p.state) dt ∷ xs)
      (run_progress st n r.parameter es false q h a m f ∙ ap (λ (x : Progress). progress_by_sums w x ns (dts_of es)) (u b))))
  run_progress st n p (call c ∷ es) owed q h a l o =
      let xs = advance_in id st c in
      let ys = advances_of id (after st c) es in
      let b = grids xs ys a in
      let e = order_call st c es owed o in
      let m = call_goes st id n q c h.0 b.0 in
      run_progress (after st c) (n + total xs) p es (owed || moves st c) m h.1 b.1 l e.1
      ∙ ap (λ (ns : List ℕ). progress_by_sums w (progress_in p.state) ns (dts_of es)) (sums_call id st n (n + total xs) c owed ys m e.0)
