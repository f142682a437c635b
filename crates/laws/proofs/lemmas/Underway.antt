-- A tween under way stays sound: its delay only shrinks, and its time stays in 0..duration, so that its amount lies in
-- 0..1 where the duration is not zero. RULES, tween-amount. Assumes nothing.
use Prim.Native.Nat.{ℕ, ◌-◌, ◌*◌, ◌/◌, ◌%◌, ◌≤◌, ◌<◌}
use native.Mathlib.Nat.{zero-lt-suc, eq-zero-or-pos, mul_comm, mul-pos, mul-le-mul_right}
use native.Mathlib.Omega.{arith}
use mathlib.Core.Path.{◌≡◌, refl, sym, ap, ◌∙◌, subst}
use mathlib.Core.Logic.{◌⊎◌, inl, inr}
use mathlib.Core.Bool.{Bool, true, false, cond}
use lib.IntN.{pos, negsuc}
use lib.Dec.{T, eqb, ltb→lt}
use lib.Ieee.{Float, nan, inf, fin, binary64, up, down, round, add, div, of_int, lt, eq, le, fits, is_nan}
use lib.Ieee.Fits.{up_pos, down_pos, add-fits}
use lib.Ieee.Order.{round_mono}
use lib.Ieee.Scale.{finite}
use lib.Ieee.Positive.{positive, positive-finite, between}
use borrow.Author.Tests.{ltb-false, le-ltb, ne_eqb, eqb-false}
use Rattle.doubles.specs.Doubles.{zero_f, one_f}
use Rattle.doubles.proofs.Held.{held}
use Rattle.doubles.specs.Intervals.{Between, InUnit}
use Rattle.doubles.proofs.Unit.{le_trans, le_same, le_of_not_lt, between_is, between_finite, between_wider, finite_is, round_least, add_mono}
use Rattle.doubles.proofs.Quotients.{div_mono}
use Rattle.times.specs.Durations.{nanos_of, seconds_of}
use Rattle.judge.specs.Judge.{no_faults, both_faults, bad_span, span_faults, dt_faults}
use Rattle.times.specs.Starts.{start_faults}
use Rattle.judge.specs.declared.Faults.{Faults}
use Rattle.times.specs.declared.start_time.StartTime.{StartTime}
use Rattle.times.specs.declared.start_time.StartTime.TheVariants.{Immediate, Delayed, At}
use Rattle.times.specs.declared.start_time.When.{When}
use Rattle.judge.proofs.Judged.{joined}
use Rattle.values.proofs.clock_speed.Rates.{neither}
use Rattle.times.specs.Easings.{tween_faults, tween_value_of, ease_faults}
use Rattle.times.specs.declared.tween.Tween.{Tween}
use Rattle.values.proofs.value.Eased.{eased_unit}
use Rattle.parameter.specs.Courses.{new_course, started_of, waited_of, waits, goes, step_of, amount_at}
use Rattle.parameter.specs.declared.course.Course.{Course}
use Rattle.parameter.specs.declared.course.Stepped.{Stepped}
use Rattle.parameter.specs.declared.course.Stepped.TheVariants.{Waits, Goes, Ends}
use Rattle.laws.specs.Sound.{SoundCourse}
use Rattle.laws.proofs.lemmas.Accepted.{no_faults_lem, dt_range}

-- ---- the seconds of a duration

abbrev int : ℕ → Float
int n = of_int binary64 (pos n)

abbrev longest : Float
longest = fin false 86401 (pos 0)

int_mono : (k l : ℕ) → k ≤ l → Between zero_f (int k) (int l)
unfolding of_int
int_mono k l h = record { least = round_least binary64 k 1 (zero-lt-suc 0); most = round_mono binary64 k 1 l 1 (zero-lt-suc 0) (zero-lt-suc 0) (mul-le-mul_right 1 h) }

-- a rest of nanoseconds, in seconds
nano_mono : (k l : ℕ) → k ≤ l → T (finite (int l)) → Between zero_f (div binary64 (int k) (int 1000000000)) (div binary64 (int l) (int 1000000000))
unfolding of_int
nano_mono k l h F = div_mono binary64 (int k) (int 1000000000) (int l) (int 1000000000) F tt tt (int_mono k l h) (unfold le in tt)

-- 2 ^ -30, below a nanosecond
abbrev tiny : Float
tiny = fin false 1 (negsuc 29)

-- a whole second, or a nanosecond of the rest
some : (n : ℕ) → (n ≡ 0 → ⊥) → (1 ≤ n / 1000000000) ⊎ (1 ≤ n % 1000000000)
some n h = elim (eq-zero-or-pos (n / 1000000000)) [ inl z ↦ elim (eq-zero-or-pos (n % 1000000000)) [ inl y ↦ absurd (h (omega arith)) | inr p ↦ inr p ] | inr p ↦ inl p ]

module _ (n : ℕ) (h : bad_span n ≡ false) where
  second_range : Between zero_f (int (n / 1000000000)) (int 86400)
  second_range = let l : n ≤ 86_400_000_000_000 = ltb-false 86_400_000_000_000 n h in int_mono (n / 1000000000) 86400 (omega arith)

  rest_range : Between zero_f (div binary64 (int (n % 1000000000)) (int 1000000000)) (div binary64 (int 1000000000) (int 1000000000))
  rest_range = nano_mono (n % 1000000000) 1000000000 (omega arith) (unfold of_int in tt)

  seconds_range : Between zero_f (seconds_of n) (fin false 86401 (pos 0))
  unfolding seconds_of
  seconds_range =
      between_wider zero_f zero_f (seconds_of n) (add binary64 (int 86400) (div binary64 (int 1000000000) (int 1000000000))) longest (unfold le in tt) (unfold of_int add div le in tt)
      (add_mono binary64 (int (n / 1000000000)) (div binary64 (int (n % 1000000000)) (int 1000000000)) (int 86400) (div binary64 (int 1000000000) (int 1000000000)) (unfold of_int in tt) (unfold of_int div in tt) second_range rest_range)

  -- the seconds are no less than the sum of what each part is no less than
  seconds_least : (a b : Float) → Between zero_f a (int (n / 1000000000)) → Between zero_f b (div binary64 (int (n % 1000000000)) (int 1000000000)) → T (le (add binary64 a b) (seconds_of n))
  unfolding seconds_of
  seconds_least a b p q =
      (add_mono binary64 a b (int (n / 1000000000)) (div binary64 (int (n % 1000000000)) (int 1000000000)) (between_finite zero_f (int (n / 1000000000)) (int 86400) tt (unfold of_int in tt) second_range)
      (between_finite zero_f (div binary64 (int (n % 1000000000)) (int 1000000000)) (div binary64 (int 1000000000) (int 1000000000)) tt (unfold of_int div in tt) rest_range)
      p q
      ).most

  seconds_positive : eqb n 0 ≡ false → T (positive (seconds_of n))
  seconds_positive z = between tiny (seconds_of n) longest tt tt (go (some n (eqb-false n 0 z))) seconds_range.most
    where
      go : (1 ≤ n / 1000000000) ⊎ (1 ≤ n % 1000000000) → T (le tiny (seconds_of n))
      go (inl k) =
          le_trans tiny (add binary64 (int 1) zero_f) (seconds_of n) (unfold of_int add le in tt)
          (seconds_least (int 1) zero_f (int_mono 1 (n / 1000000000) k) (record { least = unfold le in tt; most = rest_range.least }))
      go (inr k) =
          let F : T (finite (int (n % 1000000000))) = between_finite zero_f (int (n % 1000000000)) (int 1000000000) tt (unfold of_int in tt) (int_mono (n % 1000000000) 1000000000 (omega arith)) in
          le_trans tiny (add binary64 zero_f (div binary64 (int 1) (int 1000000000))) (seconds_of n) (unfold of_int div add le in tt)
          (seconds_least zero_f (div binary64 (int 1) (int 1000000000)) (record { least = unfold le in tt; most = second_range.least }) (nano_mono 1 (n % 1000000000) k F))

-- ---- amounts

itself : (y : Float) → T (positive y) → div binary64 y y ≡ one_f
unfolding div
itself nan p = absurd p
itself (inf s) p = absurd p
itself (fin true n d) p = absurd p
itself (fin false n d) p =
    let k = n * up d * down d in
    let N : 0 < n = ltb→lt 0 n p in
    ap (λ (b : Bool). cond b (cond (eqb n 0) nan (inf false)) (round binary64 false k k)) (ne_eqb n 0 (λ z. none n N z))
    ∙ sym (held binary64 one_f false k k (mul-pos (mul-pos N (up_pos d)) (down_pos d)) (unfold fits in tt) (refl, mul_comm 1 k))
  where
    none : (n : ℕ) → 0 < n → n ≡ 0 → ⊥
    none n h z = omega arith

quotient_unit : (x y : Float) → T (positive y) → Between zero_f x y → InUnit (div binary64 x y)
quotient_unit x y p h =
    let F : T (finite y) = positive-finite y p in
    subst (λ (z : Float). Between zero_f (div binary64 x y) z) (itself y p) (div_mono binary64 x y y y F p p h (le_same y (finite_is y F)))

-- an accepted tween's parts
module _ (t : Tween) (h : tween_faults t ≡ no_faults) where
  timed : (both_faults (start_faults t.start_time) (span_faults t.duration) ≡ no_faults) × (ease_faults t.easing ≡ no_faults)
  timed = no_faults_lem (both_faults (start_faults t.start_time) (span_faults t.duration)) (ease_faults t.easing) h

  parts : (start_faults t.start_time ≡ no_faults) × (span_faults t.duration ≡ no_faults)
  parts = no_faults_lem (start_faults t.start_time) (span_faults t.duration) timed.0

  lasts : bad_span t.duration ≡ false
  lasts = ap (λ (r : Faults). r.time) parts.1

pub amount_unit : (c : Course) → SoundCourse c → eqb c.tween.duration 0 ≡ false → InUnit (amount_at c)
unfolding tween_value_of
amount_unit c s z = eased_unit c.tween.easing _ (quotient_unit c.time (seconds_of c.tween.duration) (seconds_positive c.tween.duration (lasts c.tween s.accepted) z) s.running)

-- ---- steps

pub begun : (t : Tween) → tween_faults t ≡ no_faults → SoundCourse (new_course t)
begun t h = record {
  accepted = h;
  double = unfold fits in tt;
  running = record { least = unfold le in tt; most = (seconds_range t.duration (lasts t h)).least };
}

shorter : (s : StartTime) (dt : Float) → start_faults s ≡ no_faults → start_faults (waited_of s dt) ≡ no_faults
shorter Immediate dt h = h
shorter (Delayed n) dt h =
    let l : n ≤ 86_400_000_000_000 = ltb-false 86_400_000_000_000 n (ap (λ (r : Faults). r.time) h) in
    rw (le-ltb 86_400_000_000_000 (n - nanos_of dt) (less n (nanos_of dt) l))
  where
    less : (n k : ℕ) → n ≤ 86_400_000_000_000 → n - k ≤ 86_400_000_000_000
    less n k h = omega arith
shorter (At t) dt h = h

waited : (c : Course) (dt : Float) → SoundCourse c → SoundCourse (waits c dt)
waited c dt s =
    let p = parts c.tween s.accepted in
    let e = (timed c.tween s.accepted).1 in
    record { accepted = joined no_faults no_faults refl (joined no_faults no_faults refl (shorter c.tween.start_time dt p.0) p.1) e; double = s.double; running = s.running }

-- a sound course, or none
abbrev pub SoundStepped : Stepped → Type 0
SoundStepped (Waits c) = SoundCourse c
SoundStepped (Goes c) = SoundCourse c
SoundStepped Ends = Unit {0}

under : (x y : Float) → is_nan x ≡ false → is_nan y ≡ false → le x y ≡ false → T (le y x)
unfolding le
under x y p q e = le_of_not_lt x y p q (neither (lt x y) (eq x y) e).0

gone : (c : Course) (dt : Float) → SoundCourse c → dt_faults dt ≡ no_faults → SoundStepped (goes c (add binary64 c.time dt))
gone c dt s h = go (le secs time) refl
  where
    secs : Float
    secs = seconds_of c.tween.duration

    time : Float
    time = add binary64 c.time dt

    range : Between zero_f secs longest
    range = seconds_range c.tween.duration (lasts c.tween s.accepted)

    added : Between zero_f time (add binary64 secs (fin false 15 (pos 2)))
    added = add_mono binary64 c.time dt secs (fin false 15 (pos 2)) (between_finite zero_f secs longest tt tt range) tt s.running (dt_range dt h)

    go : (b : Bool) → le secs time ≡ b → SoundStepped (cond b Ends (Goes (record { tween = c.tween; time = time })))
    go true e = tt
    go false e = record { accepted = s.accepted; double = add-fits binary64 c.time dt; running = record { least = added.least; most = under secs time (between_is zero_f secs longest range) (between_is zero_f time _ added) e } }

pub step_sound : (c : Course) (dt : Float) (w : When) → SoundCourse c → dt_faults dt ≡ no_faults → SoundStepped (step_of c dt w)
unfolding step_of
step_sound c dt w s h = go (started_of c.tween.start_time w)
  where
    go : (b : Bool) → SoundStepped (cond b (goes c (add binary64 c.time dt)) (Waits (waits c dt)))
    go true = gone c dt s h
    go false = waited c dt s
