-- An LFO's phase and value: a remainder by 1 lies in -1..1, the waves of such a phase in -2..2, and
-- offset + amplitude * wave is finite. RULES, lfo-update. Assumes nothing.
use Prim.Native.Nat.{ℕ, ◌+◌, ◌-◌, ◌*◌, ◌%◌, ◌^◌, ◌≤◌, ◌<◌, zero-le}
use native.Mathlib.Nat.{le_trans as leq-trans, le_of_eq, zero-lt-suc, mul-one, mul_assoc, mul_comm, mul_right_comm, add-mul, mul-pos, mul-le-mul, mul-le-mul_right, mul-mul-mul_comm, mod-lt, mod-le, zero-mod}
use native.Mathlib.Omega.{arith}
use mathlib.Core.Path.{◌≡◌, refl, sym, ap, ◌∙◌, subst}
use mathlib.Core.Logic.{◌⊎◌, inl, inr}
use mathlib.Core.Bool.{Bool, true, false, ◌&&◌, cond, true≢false, false≢true}
use lib.IntN.{ℤ, pos, negsuc}
use lib.Dec.{T, ltb}
use lib.Ieee.{Float, nan, inf, fin, binary64, up, down, round, add, sub, mul, div, rem, lt, le, fits, unlike}
use lib.Ieee.Exact.{HasValue}
use lib.Ieee.Fits.{down_pos, add-fits}
use lib.Ieee.Positive.{num, den, den_pos}
use lib.Ieee.Scale.{finite}
use borrow.Author.Tests.{ltb-false, ne_eqb}
use Rattle.doubles.specs.Doubles.{zero_f, one_f, two_f, half_f, fract_of, abs_of}
use Rattle.doubles.proofs.Rest.{fract_rest}
use Rattle.doubles.proofs.Unit.{Side, Upto, Rounds, between_wider, no_times, on_of_upto, round_upto, mul_rounds, rounds_upto}
use Rattle.doubles.proofs.Quotients.{gap, sum_gap}
use Rattle.judge.specs.Judge.{no_faults, dt_faults}
use Rattle.waveform.specs.Waves.{triangle_of, saw_of, wave_value_of}
use Rattle.waveform.specs.declared.Waveform.{Waveform}
use Rattle.waveform.specs.declared.Waveform.TheVariants.{Triangle, Saw, Pulse}
use Rattle.laws.specs.Sound.{Within}
use Rattle.laws.proofs.lemmas.Accepted.{dt_range}
use Rattle.laws.proofs.lemmas.Signed.{apart, summed, within_finite, size_of, of_size}

-- ---- sums and products of sizes

upto_within : (k : ℕ) (s : Bool) (x : Float) → Upto s x (1 * 2 ^ k) 1 → Within k x
upto_within k s nan h = absurd h
upto_within k s (inf t) h = absurd h
upto_within k s (fin t m e) h = of_size k (fin t m e) tt h.1

round_within : (k : ℕ) (u : Bool) (n d : ℕ) → T (fits binary64 (fin false 1 (pos k))) → 0 < d → n * 1 ≤ 1 * 2 ^ k * d → Within k (round binary64 u n d)
round_within k u n d F D h = upto_within k u (round binary64 u n d) (round_upto binary64 (fin false 1 (pos k)) u u n d (1 * 2 ^ k) 1 D (zero-lt-suc 0) F (refl, refl) (inl refl) h)

-- x in -2^j..2^j and y in -2^k..2^k
module _ (j k l : ℕ) (F : T (fits binary64 (fin false 1 (pos l)))) where
  add_within : 1 * 2 ^ j + 1 * 2 ^ k ≤ 1 * 2 ^ l → (x y : Float) → Within j x → Within k y → Within l (add binary64 x y)
  unfolding add
  add_within o x y h i = go x y (size_of j x h) (size_of k y i)
    where
      spread : (a b c d p q r G : ℕ) → p + q ≤ r → a * 1 ≤ p * c → b * 1 ≤ q * d → G ≤ a * d + b * c → G * 1 ≤ r * (c * d)
      spread a b c d p q r G o x y g =
          let x' : a * 1 * d ≤ p * c * d = mul-le-mul_right d x in
          let y' : b * 1 * c ≤ q * d * c = mul-le-mul_right c y in
          let z : (p + q) * (c * d) ≤ r * (c * d) = mul-le-mul_right (c * d) o in
          omega (arith, add-mul p q (c * d), mul_assoc p c d, mul_assoc q d c, mul_comm d c)

      go : (x y : Float) → T (finite x) × (num x * 1 ≤ 1 * 2 ^ j * den x) → T (finite y) × (num y * 1 ≤ 1 * 2 ^ k * den y) → Within l (add binary64 x y)
      go nan y h i = absurd h.0
      go (inf s) y h i = absurd h.0
      go (fin s m e) nan h i = absurd i.0
      go (fin s m e) (inf t) h i = absurd i.0
      go (fin s m e) (fin t n d) h i =
          let r = summed binary64 s t (m * up e * down d) (n * up d * down e) (down e * down d) in
          subst (Within l) (sym r.2)
          (round_within l r.0 r.1 (down e * down d) F (mul-pos (down_pos e) (down_pos d)) (spread (m * up e) (n * up d) (down e) (down d) (1 * 2 ^ j) (1 * 2 ^ k) (1 * 2 ^ l) r.1 o h.1 i.1 r.3))

  mul_within : 1 * 2 ^ j * (1 * 2 ^ k) ≤ 1 * 2 ^ l → (x y : Float) → Within j x → Within k y → Within l (mul binary64 x y)
  unfolding mul
  mul_within o x y h i = go x y (size_of j x h) (size_of k y i)
    where
      spread : (a b c d p q r : ℕ) → p * q ≤ r → a * 1 ≤ p * c → b * 1 ≤ q * d → a * b * 1 ≤ r * (c * d)
      spread a b c d p q r o x y =
          leq-trans (le_of_eq (mul-one (a * b)))
          (leq-trans (mul-le-mul (leq-trans (le_of_eq (sym (mul-one a))) x) (leq-trans (le_of_eq (sym (mul-one b))) y)) (leq-trans (le_of_eq (mul-mul-mul_comm p c q d)) (mul-le-mul_right (c * d) o)))

      go : (x y : Float) → T (finite x) × (num x * 1 ≤ 1 * 2 ^ j * den x) → T (finite y) × (num y * 1 ≤ 1 * 2 ^ k * den y) → Within l (mul binary64 x y)
      go nan y h i = absurd h.0
      go (inf s) y h i = absurd h.0
      go (fin s m e) nan h i = absurd i.0
      go (fin s m e) (inf t) h i = absurd i.0
      go (fin s m e) (fin t n d) h i =
          round_within l (unlike s t) (m * up e * (n * up d)) (down e * down d) F (mul-pos (down_pos e) (down_pos d)) (spread (m * up e) (n * up d) (down e) (down d) (1 * 2 ^ j) (1 * 2 ^ k) (1 * 2 ^ l) o h.1 i.1)

-- ---- phases

-- a phase after an update: RULES, phase
phase_within : (x : Float) → T (finite x) → Within 0 (rem binary64 x one_f)
unfolding rem
phase_within nan F = absurd F
phase_within (inf s) F = absurd F
phase_within (fin s m e) F = round_within 0 s (m * up e * 1 % (1 * down e)) (down e * 1) (unfold fits in tt) (mul-pos (down_pos e) (zero-lt-suc 0)) (less (m * up e * 1) (down e) (down_pos e))
  where
    less : (n d : ℕ) → 0 < d → n % (1 * d) * 1 ≤ 1 * (d * 1)
    less n d D = let l : n % (1 * d) < 1 * d = mod-lt n (mul-pos (zero-lt-suc 0) D) in omega arith

pub next_phase : (phase dt frequency : Float) → Within 40 phase → dt_faults dt ≡ no_faults → Within 40 frequency → Within 0 (rem binary64 (add binary64 phase (mul binary64 dt frequency)) one_f)
next_phase p dt f h k i =
    let r = dt_range dt k in
    let d : Within 6 dt = between_wider (fin true 1 (pos 6)) zero_f dt (fin false 15 (pos 2)) (fin false 1 (pos 6)) (unfold le in tt) (unfold le in tt) r in
    phase_within (add binary64 p (mul binary64 dt f))
    (within_finite 47 (add binary64 p (mul binary64 dt f)) (add_within 40 46 47 (unfold fits in tt) (omega arith) p (mul binary64 dt f) h (mul_within 6 40 46 (unfold fits in tt) (omega arith) dt f d i)))

-- a phase that is given, in turns: the division is by a number from 1 on: RULES, tau
pub set_phase : (x : Float) (n : ℕ) (d : ℤ) → Within 40 x → down d ≤ n * up d → Within 40 (div binary64 x (fin false n d))
unfolding div
set_phase x n d h l = go x (size_of 40 x h)
  where
    some : (k : ℕ) → 0 < k → k ≤ 0 → ⊥
    some k h l = omega arith

    smaller : (x u v w c : ℕ) → x * 1 ≤ c * w → u ≤ v → x * u * 1 ≤ c * (v * w)
    smaller x u v w c h k =
        leq-trans (le_of_eq (mul-one (x * u)))
        (leq-trans (mul-le-mul (leq-trans (le_of_eq (sym (mul-one x))) h) k) (le_of_eq (mul_assoc c w v ∙ ap (λ (z : ℕ). c * z) (mul_comm w v))))

    go : (x : Float) → T (finite x) × (num x * 1 ≤ 1 * 2 ^ 40 * den x) → Within 40 (div binary64 x (fin false n d))
    go nan h = absurd h.0
    go (inf s) h = absurd h.0
    go (fin s m e) h =
        rw (ne_eqb n 0 (λ z. some (down d) (down_pos d) (leq-trans l (le_of_eq (no_times n (up d) z)))))
        (round_within 40 (unlike s false) (m * up e * down d) (n * up d * down e) (unfold fits in tt) (mul-pos (leq-trans (down_pos d) l) (down_pos e)) (smaller (m * up e) (down d) (n * up d) (down e) (2 ^ 40) h.1 l))

-- ---- waves

-- the part of a phase's turn: at or above zero and up to 1, or below zero and b / c at most
abbrev Turn : Float → ℕ → ℕ → Type 0
Turn z b c = Upto false z 1 1 ⊎ Upto true z b c

side_fract : (s t : Bool) (m r : ℕ) → (m ≡ 0 → r ≡ 0) → Side s t m → Side s (t && ltb 0 r) r
side_fract s t m r k (inr z) = inr (k z)
side_fract false false m r k (inl p) = inl refl
side_fract false true m r k (inl p) = absurd (true≢false p)
side_fract true false m r k (inl p) = absurd (false≢true p)
side_fract true true m r k (inl p) = go (ltb 0 r) (ltb-false 0 r)
  where
    go : (b : Bool) → (b ≡ false → r ≤ 0) → Side true b r
    go true h = inl refl
    go false h = let l : r ≤ 0 = h refl in inr (omega arith)

-- the fraction of y stands where y does, and is a size b / c at most that what is left of y's size is
fract_upto : (s : Bool) (y hi : Float) (a d b c : ℕ) → 0 < c → T (fits binary64 hi) → HasValue hi false b c → T (fits binary64 y) → Upto s y a d → ((x e : ℕ) → 0 < e → x * d ≤ a * e → x % e * c ≤ b * e) → Upto s (fract_of y) b c
fract_upto s nan hi a d b c C F v G h k = absurd h
fract_upto s (inf t) hi a d b c C F v G h k = absurd h
fract_upto s (fin t m e) hi a d b c C F v G h k =
    let r = m * up e % down e in
    subst (λ (z : Float). Upto s z b c) (sym (fract_rest t m e G))
    (round_upto binary64 hi s (t && ltb 0 r) r (down e) b c (down_pos e) C F v (side_fract s t m r (λ z. ap (λ (n : ℕ). n % down e) (no_times m (up e) z) ∙ zero-mod (down e)) h.0) (k (m * up e) (down e) (down_pos e) h.1))

-- a phase in -1..1 with q more, and a double hi of the size b / c that is 1 - q
module _ (n : ℕ) (d : ℤ) (hi : Float) (b c : ℕ) (C : 0 < c) (F : T (fits binary64 hi)) (v : HasValue hi false b c) (low : n * up d * 1 ≤ 1 * down d) (rest : down d * c ≤ b * down d + n * up d * c) where
  shifted : (p : Float) → Within 0 p → Upto false (add binary64 p (fin false n d)) 2 1 ⊎ Upto true (add binary64 p (fin false n d)) b c
  unfolding add
  shifted p h = go p (size_of 0 p h)
    where
      upward : (a x e f g : ℕ) → a * 1 ≤ 1 * e → x * 1 ≤ 1 * f → g ≤ x * e + a * f → g * 1 ≤ 2 * (e * f)
      upward a x e f g h k l =
          let i : a * 1 * f ≤ 1 * e * f = mul-le-mul_right f h in
          let j : x * 1 * e ≤ 1 * f * e = mul-le-mul_right e k in
          omega (arith, mul_comm f e)

      downward : (a x e f g : ℕ) → a * 1 ≤ 1 * e → f * c ≤ b * f + x * c → x * e + g ≤ a * f → g * c ≤ b * (e * f)
      downward a x e f g h k l =
          let a≤e : a ≤ e = omega arith in
          let l' : (x * e + g) * c ≤ a * f * c = mul-le-mul_right c l in
          let h' : a * f * c ≤ e * f * c = mul-le-mul_right c (mul-le-mul_right f a≤e) in
          let k' : f * c * e ≤ (b * f + x * c) * e = mul-le-mul_right e k in
          let p : f * c * e ≡ e * f * c = mul_right_comm f c e ∙ ap (λ (z : ℕ). z * c) (mul_comm f e) in
          let q : b * f * e ≡ b * (e * f) = mul_assoc b f e ∙ ap (λ (z : ℕ). b * z) (mul_comm f e) in
          omega (arith, add-mul (x * e) g c, add-mul (b * f) (x * c) e, mul_right_comm x c e)

      go : (p : Float) → T (finite p) × (num p * 1 ≤ 1 * 1 * den p) → Upto false (add binary64 p (fin false n d)) 2 1 ⊎ Upto true (add binary64 p (fin false n d)) b c
      go nan h = absurd h.0
      go (inf s) h = absurd h.0
      go (fin s m e) h =
          let D : 0 < down e * down d = mul-pos (down_pos e) (down_pos d) in
          let r = apart binary64 (n * up d * down e) (m * up e * down d) (down e * down d) true s in
          elim r.3 [
            | inl k ↦ inr (subst (λ (z : Float). Upto true z b c) (sym r.2) (round_upto binary64 hi true r.0 r.1 (down e * down d) b c D C F v k.0 (downward (m * up e) (n * up d) (down e) (down d) r.1 h.1 rest k.1)))
            | inr k ↦ inl (subst (λ (z : Float). Upto false z 2 1) (sym r.2) (round_upto binary64 two_f false r.0 r.1 (down e * down d) 2 1 D (zero-lt-suc 0) (unfold fits in tt) (refl, refl) k.0 (upward (m * up e) (n * up d) (down e) (down d) r.1 h.1 low k.1)))
          ]

  turned : (p : Float) → Within 0 p → Turn (fract_of (add binary64 p (fin false n d))) b c
  turned p h =
      let y = add binary64 p (fin false n d) in
      let G : T (fits binary64 y) = add-fits binary64 p (fin false n d) in
      elim (shifted p h) [
        | inl k ↦ inl (fract_upto false y one_f 2 1 1 1 (zero-lt-suc 0) (unfold fits in tt) (refl, refl) G k under)
        | inr k ↦ inr (fract_upto true y hi b c b c C F v G k (λ x e E l. leq-trans (mul-le-mul_right c (mod-le x e)) l))
      ]
    where
      under : (x e : ℕ) → 0 < e → x * 1 ≤ 2 * e → x % e * 1 ≤ 1 * e
      under x e E l = let r : x % e < e = mod-lt x E in omega arith

-- z times 2 ^ j
times : (s : Bool) (z : Float) (j : ℕ) (hi : Float) (a c p : ℕ) → T (fits binary64 hi) → HasValue hi false p 1 → Upto s z a c → ((x d : ℕ) → x * c ≤ a * d → x * (1 * 2 ^ j) * 1 ≤ p * (d * 1)) → Upto s (mul binary64 z (fin false 1 (pos j))) p 1
times s z j hi a c p F v h k =
    rounds_upto binary64 (mul binary64 z (fin false 1 (pos j))) hi s (num z * (1 * 2 ^ j)) (den z * 1) p 1 (mul-pos (den_pos z) (zero-lt-suc 0)) (zero-lt-suc 0) F v
    (subst (λ (b : Bool). Rounds binary64 (mul binary64 z (fin false 1 (pos j))) b (num z * (1 * 2 ^ j)) (den z * 1)) (plain s) (mul_rounds binary64 z (fin false 1 (pos j)) s false (on_of_upto z s a c h) (inl refl)))
    (k (num z) (den z) (bound z h))
  where
    plain : (s : Bool) → unlike s false ≡ s
    plain false = refl
    plain true = refl

    bound : (z : Float) → Upto s z a c → num z * c ≤ a * den z
    bound nan h = absurd h
    bound (inf t) h = absurd h
    bound (fin t m e) h = h.1

-- z less a number n * 2 ^ d from zero up, for z up to a / c, or below zero and b / k at most in size: the result is
-- p / q at most in size
module _ (n : ℕ) (d : ℤ) (hi : Float) (a c b k p q : ℕ) (Q : 0 < q) (F : T (fits binary64 hi)) (v : HasValue hi false p q) (apart_by : (x e : ℕ) → x * c ≤ a * e → (x * down d - n * up d * e + (n * up d * e - x * down d)) * q ≤ p * (e * down d)) (joined_by : (x e : ℕ) → x * k ≤ b * e → (x * down d + n * up d * e) * q ≤ p * (e * down d)) where
  lessened : (z : Float) → Upto false z a c ⊎ Upto true z b k → (u : Bool) × Upto u (sub binary64 z (fin false n d)) p q
  unfolding sub add
  lessened nan (inl h) = absurd h
  lessened nan (inr h) = absurd h
  lessened (inf t) (inl h) = absurd h
  lessened (inf t) (inr h) = absurd h
  lessened (fin s m e) h =
      let r = sum_gap binary64 s (m * up e * down d) false (n * up d * down e) (down e * down d) in (
        r.0,
        subst (λ (z : Float). Upto r.0 z p q) (sym r.1)
            (round_upto binary64 hi r.0 r.0 (gap s (m * up e * down d) false (n * up d * down e)) (down e * down d) p q (mul-pos (down_pos e) (down_pos d)) Q F v (inl refl) (go s h)),
      )
    where
      nothing : (x i : ℕ) → m ≡ 0 → m * up e * x ≤ i
      nothing x i z = leq-trans (le_of_eq (no_times (m * up e) x (no_times m (up e) z))) zero-le

      go : (s : Bool) → Upto false (fin s m e) a c ⊎ Upto true (fin s m e) b k → gap s (m * up e * down d) false (n * up d * down e) * q ≤ p * (down e * down d)
      go false (inl h) = apart_by (m * up e) (down e) h.1
      go false (inr (inl y, h)) = absurd (false≢true y)
      go false (inr (inr z, h)) = apart_by (m * up e) (down e) (nothing c (a * down e) z)
      go true (inl (inl y, h)) = absurd (true≢false y)
      go true (inl (inr z, h)) = joined_by (m * up e) (down e) (nothing k (b * down e) z)
      go true (inr h) = joined_by (m * up e) (down e) h.1

-- w - 1
lowered : (w : Float) → Upto false w 3 1 ⊎ Upto true w 1 1 → Within 1 (sub binary64 w one_f)
lowered w h =
    let r = lessened 1 (pos 0) two_f 3 1 1 1 2 1 (zero-lt-suc 0) (unfold fits in tt) (refl, refl) (λ x e l. omega arith) (λ x e l. omega arith) w h in
    upto_within 1 r.0 (sub binary64 w one_f) r.1

abs_upto : (u : Bool) (x : Float) (a c : ℕ) → Upto u x a c → Upto false (abs_of x) a c
abs_upto u nan a c h = absurd h
abs_upto u (inf t) a c h = absurd h
abs_upto u (fin t m e) a c h = (inl refl, h.1)

triangle_within : (p : Float) → Within 0 p → Within 1 (triangle_of p)
triangle_within p h =
    let z = fract_of (add binary64 p (fin false 3 (negsuc 1))) in
    let t : Turn z 1 4 = turned 3 (negsuc 1) (fin false 1 (negsuc 1)) 1 4 (zero-lt-suc 3) (unfold fits in tt) (refl, refl) (omega arith) (omega arith) p h in
    let r = lessened 1 (negsuc 0) (fin false 3 (negsuc 1)) 1 1 1 4 3 4 (zero-lt-suc 3) (unfold fits in tt) (refl, refl) (λ x e l. omega arith) (λ x e l. omega arith) z t in
    lowered (mul binary64 (abs_of (sub binary64 z half_f)) (fin false 1 (pos 2)))
    (inl (times false (abs_of (sub binary64 z half_f)) 2 (fin false 3 (pos 0)) 3 4 3 (unfold fits in tt) (refl, refl) (abs_upto r.0 (sub binary64 z half_f) 3 4 r.1) (λ x d l. omega arith)))

saw_within : (p : Float) → Within 0 p → Within 1 (saw_of p)
saw_within p h =
    let z = fract_of (add binary64 p half_f) in
    lowered (mul binary64 z two_f)
    (elim (turned 1 (negsuc 0) half_f 1 2 (zero-lt-suc 1) (unfold fits in tt) (refl, refl) (omega arith) (omega arith) p h) [
      | inl k ↦ inl (times false z 1 (fin false 3 (pos 0)) 1 1 3 (unfold fits in tt) (refl, refl) k (λ x d l. omega arith))
      | inr k ↦ inr (times true z 1 one_f 1 2 1 (unfold fits in tt) (refl, refl) k (λ x d l. omega arith))
    ])

pulse_within : (b : Bool) → Within 1 (cond b one_f (fin true 1 (pos 0)))
pulse_within true = record { least = unfold le in tt; most = unfold le in tt }
pulse_within false = record { least = unfold le in tt; most = unfold le in tt }

-- no wave is more than 2 in size: RULES, negative-phase
pub wave_within : (w : Waveform) (p : Float) → Within 0 p → Within 1 (wave_value_of w p)
unfolding wave_value_of
wave_within Triangle p h = triangle_within p h
wave_within Saw p h = saw_within p h
wave_within (Pulse width) p h = pulse_within (lt p width)

-- an LFO's value: RULES, lfo-update
pub value_within : (offset amplitude wave : Float) → Within 40 offset → Within 40 amplitude → Within 1 wave → Within 42 (add binary64 offset (mul binary64 amplitude wave))
value_within o a w h k i =
    add_within 40 41 42 (unfold fits in tt) (omega arith) o (mul binary64 a w) h (mul_within 40 1 41 (unfold fits in tt) (omega arith) a w k i)
