-- The speeds that a running clock can have, `Running`: an accepted speed is one, and so is a mix of one with an
-- accepted or a mapped speed, where its reading in that one's unit is not refused. The ticks per second of each are
-- finite and not negative (`rate`). RULES, running-speeds. Assumes nothing.
use mathlib.Core.Path.{◌≡◌, refl, sym, ◌∙◌, subst}
use mathlib.Core.Logic.{◌⊎◌, inl, inr}
use Prim.Native.Nat.{◌*◌, ◌≤◌}
use native.Mathlib.Nat.{le_of_eq, zero-mul, mul-one}
use native.Mathlib.Omega.{arith}
use mathlib.Core.Bool.{Bool, true, false, not, ◌||◌, true≢false}
use lib.IntN.{pos, negsuc}
use lib.Dec.{T, eqb, eqb→eq}
use lib.Ieee.{Float, nan, inf, fin, binary64, up, down, div, lt, le, eq, fits, is_nan}
use lib.Ieee.Fits.{up_pos, and_l, and_r, add-fits, mul-fits, div-fits}
use lib.Ieee.Scale.{finite}
use lib.Ieee.Positive.{num, den, den_pos, between, through}
use borrow.Author.Tests.{not-false}
use Rattle.doubles.specs.Doubles.{zero_f, one_f, finite_of}
use Rattle.doubles.specs.Intervals.{Between, InUnit}
use Rattle.doubles.proofs.Unit.{none, le_trans, le_same, le_of_not_lt, between_finite, between_wider, between_of_upto, finite_is, on_of_between, size_of_between, mul_mono}
use Rattle.doubles.proofs.Ranges.{mix_range, mix_above, steady_27}
use Rattle.doubles.proofs.Quotients.{div_mono, divisor_positive}
use Rattle.values.specs.RunningSpeeds.{Runs, Above, Running, Reachable, number_of}
use Rattle.values.specs.Speeds.{sixty_f, spt_of, tps_of, tpm_of, read_in_of, interpolate_speed_of, in_range, bad_speed, bad_reading}
use Rattle.values.specs.Tweenables.{interpolate_of}
use Rattle.values.specs.declared.clock_speed.ClockSpeed.{ClockSpeed}
use Rattle.values.specs.declared.clock_speed.ClockSpeed.TheVariants.{SecondsPerTick, TicksPerSecond, TicksPerMinute}

-- 2 ^ -27, 2 ^ -20 and 2 ^ 27
abbrev shortest : Float
shortest = fin false 1 (negsuc 26)

abbrev smallest : Float
smallest = fin false 1 (negsuc 19)

abbrev largest : Float
largest = fin false 1 (pos 27)

-- x in a speed's unit
abbrev pub like : ClockSpeed → Float → ClockSpeed
like (SecondsPerTick y) x = SecondsPerTick x
like (TicksPerSecond y) x = TicksPerSecond x
like (TicksPerMinute y) x = TicksPerMinute x

-- ---- tests

so : (b : Bool) → b ≡ true → T b
so b e = subst T (sym e) tt

either : (a b : Bool) → T (a || b) → T a ⊎ T b
either true b t = inl tt
either false b t = inr t

pub neither : (a b : Bool) → (a || b) ≡ false → (a ≡ false) × (b ≡ false)
neither true b e = absurd (true≢false e)
neither false b e = (refl, e)

-- ---- accepted speeds

in_range_lem : (x : Float) → T (in_range x) → Between smallest x largest
in_range_lem x h = record {
  least = and_l (le smallest x) (le x (fin false 1 (pos 20))) h;
  most = le_trans x (fin false 1 (pos 20)) largest (and_r (le smallest x) (le x (fin false 1 (pos 20))) h) (unfold le in tt);
}

at_zero : (x : Float) → T (eq x zero_f) → Between zero_f x zero_f
unfolding eq
at_zero nan h = absurd h
at_zero (inf s) h = absurd h
at_zero (fin s m e) h =
    let z : m * up e * 1 ≡ 0 * down e = eqb→eq (m * up e * 1) (0 * down e) (and_l (eqb (m * up e * 1) (0 * down e)) _ h) in
    between_of_upto (fin s m e) zero_f (unfold le in tt) (inr (none m (up e) (up_pos e) (le_of_eq (sym (mul-one (m * up e)) ∙ z ∙ zero-mul (down e)))), le_of_eq z)

from_zero : (x : Float) → T (eq x zero_f || in_range x) → Between zero_f x largest
from_zero x h =
    elim (either (eq x zero_f) (in_range x) h) [
      | inl z ↦ between_wider zero_f zero_f x zero_f largest (unfold le in tt) (unfold le in tt) (at_zero x z)
      | inr r ↦ between_wider zero_f smallest x largest largest (unfold le in tt) (unfold le in tt) (in_range_lem x r)
    ]

pub accepted_above : (s : ClockSpeed) → T (fits binary64 (number_of s)) → bad_speed s ≡ false → Above (fin false 1 (negsuc 19)) s
accepted_above (SecondsPerTick x) F h = (F, in_range_lem x (so (in_range x) (not-false (in_range x) h)))
accepted_above (TicksPerSecond x) F h = (F, from_zero x (so (eq x zero_f || in_range x) (not-false (eq x zero_f || in_range x) h)))
accepted_above (TicksPerMinute x) F h = (F, from_zero x (so (eq x zero_f || in_range x) (not-false (eq x zero_f || in_range x) h)))

pub above_wider : (lo' lo : Float) (s : ClockSpeed) → T (le lo' lo) → Above lo s → Above lo' s
above_wider lo' lo (SecondsPerTick x) h r = (r.0, between_wider lo' lo x largest largest h (unfold le in tt) r.1)
above_wider lo' lo (TicksPerSecond x) h r = r
above_wider lo' lo (TicksPerMinute x) h r = r

pub accepted_running : (s : ClockSpeed) → T (fits binary64 (number_of s)) → bad_speed s ≡ false → Running s
accepted_running s F h = above_wider shortest smallest s (unfold le in tt) (accepted_above s F h)

-- ---- the readings of a running speed

-- c / x, for x in 2 ^ -27 .. 2 ^ 27
over : (c x : Float) → T (finite c) → T (le zero_f c) → Between shortest x largest → Between zero_f (div binary64 c x) (div binary64 c shortest)
over c x F C h = div_mono binary64 c x c shortest F (between shortest x largest tt tt h.least h.most) tt (record { least = C; most = le_same c (finite_is c F) }) h.least

-- c / x, for x in 0 .. 2 ^ 27, where that is finite
under : (c x : Float) → T (finite c) → T (le zero_f c) → Between zero_f x largest → T (finite (div binary64 c x)) → T (le (div binary64 c largest) (div binary64 c x))
under c x F C h H = (div_mono binary64 c largest c x F tt (divisor_positive binary64 c x F (on_of_between x largest h tt) H) (record { least = C; most = le_same c (finite_is c F) }) h.most).most

spt_least : (s : ClockSpeed) → Running s → T (finite (spt_of s)) → T (le shortest (spt_of s))
spt_least (SecondsPerTick x) r F = r.1.least
spt_least (TicksPerSecond x) r F = le_trans shortest (div binary64 one_f largest) (div binary64 one_f x) (unfold div le in tt) (under one_f x tt (unfold le in tt) r.1 F)
spt_least (TicksPerMinute x) r F = le_trans shortest (div binary64 sixty_f largest) (div binary64 sixty_f x) (unfold div le in tt) (under sixty_f x tt (unfold le in tt) r.1 F)

-- a running speed's ticks per second lie in 0 .. 2 ^ 27
pub rate_range : (s : ClockSpeed) → Running s → Between zero_f (tps_of s) (fin false 1 (pos 27))
rate_range (SecondsPerTick x) r = between_wider zero_f zero_f (div binary64 one_f x) (div binary64 one_f shortest) largest (unfold le in tt) (unfold div le in tt) (over one_f x tt (unfold le in tt) r.1)
rate_range (TicksPerSecond x) r = r.1
rate_range (TicksPerMinute x) r = between_wider zero_f zero_f (div binary64 x sixty_f) (div binary64 largest sixty_f) largest (unfold le in tt) (unfold div le in tt) (div_mono binary64 x sixty_f largest sixty_f tt tt tt r.1 (unfold le in tt))

pub rate : (s : ClockSpeed) → Running s → T (finite (tps_of s)) × T (le zero_f (tps_of s))
rate s r = let h = rate_range s r in (between_finite zero_f (tps_of s) largest tt tt h, h.least)

tpm_least : (s : ClockSpeed) → Running s → T (le zero_f (tpm_of s))
tpm_least (SecondsPerTick x) r = (over sixty_f x tt (unfold le in tt) r.1).least
tpm_least (TicksPerSecond x) r = (mul_mono binary64 x sixty_f largest sixty_f tt tt r.1 (record { least = unfold le in tt; most = unfold le in tt })).least
tpm_least (TicksPerMinute x) r = r.1.least

spt_fits : (s : ClockSpeed) → Running s → T (fits binary64 (spt_of s))
spt_fits (SecondsPerTick x) r = r.0
spt_fits (TicksPerSecond x) r = div-fits binary64 one_f x
spt_fits (TicksPerMinute x) r = div-fits binary64 sixty_f x

tps_fits : (s : ClockSpeed) → Running s → T (fits binary64 (tps_of s))
tps_fits (SecondsPerTick x) r = div-fits binary64 one_f x
tps_fits (TicksPerSecond x) r = r.0
tps_fits (TicksPerMinute x) r = div-fits binary64 x sixty_f

tpm_fits : (s : ClockSpeed) → Running s → T (fits binary64 (tpm_of s))
tpm_fits (SecondsPerTick x) r = div-fits binary64 sixty_f x
tpm_fits (TicksPerSecond x) r = mul-fits binary64 x sixty_f
tpm_fits (TicksPerMinute x) r = r.0

-- a reading that is not refused
read : (x : Float) → (not (finite_of x) || lt largest x) ≡ false → T (finite x) × T (le x largest)
read x h =
    let n = neither (not (finite_of x)) (lt largest x) h in
    let F : T (finite x) = go x (so (finite_of x) (not-false (finite_of x) n.0)) in
    (F, le_of_not_lt largest x (unfold is_nan in refl) (finite_is x F) n.1)
  where
    go : (x : Float) → T (finite_of x) → T (finite x)
    go nan t = absurd t
    go (inf s) t = absurd t
    go (fin s m e) t = tt

-- a running speed runs in each unit that it can be read in
pub reading_running : (a b : ClockSpeed) → Running a → bad_reading a b ≡ false → Running (like b (read_in_of a b))
reading_running a (SecondsPerTick y) r h = let l = read (spt_of a) h in (spt_fits a r, record { least = spt_least a r l.0; most = l.1 })
reading_running a (TicksPerSecond y) r h = (tps_fits a r, rate_range a r)
reading_running a (TicksPerMinute y) r h = (tpm_fits a r, record { least = tpm_least a r; most = (read (tpm_of a) h).1 })

-- ---- mixes

-- a mix answers in the target's unit
pub mix_is : (a b : ClockSpeed) (t : Float) → interpolate_speed_of a b t ≡ like b (interpolate_of (read_in_of a b) (number_of b) t)
unfolding interpolate_speed_of
mix_is a (SecondsPerTick y) t = refl
mix_is a (TicksPerSecond y) t = refl
mix_is a (TicksPerMinute y) t = refl

-- from lo on towards what is 2 lo at least, and 2 ^ -25
module _ (lo hi : Float) (L : T (fits binary64 lo)) (Z : T (le zero_f lo)) (H : Between (fin false 1 (negsuc 24)) hi largest) (half : num lo * 2 * den hi ≤ num hi * den lo) where
  slow : (x y t : Float) → Runs lo x → Runs hi y → InUnit t → Runs lo (interpolate_of x y t)
  slow x y t r h u =
      let y_finite : T (finite y) = between_finite hi y largest (between_finite (fin false 1 (negsuc 24)) hi largest tt tt H) tt h.1 in
      let hi_y : Between zero_f hi y = record { least = le_trans zero_f (fin false 1 (negsuc 24)) hi (unfold le in tt) H.least; most = h.1.least } in (
        add-fits binary64 x _,
        mix_above x y t lo r.0 h.0 L Z r.1 (between_wider (fin false 1 (negsuc 24)) hi y largest largest H.least (unfold le in tt) h.1)
            (through (num lo * 2) (num hi) (num y) (den lo) (den hi) (den y) (den_pos hi) half (size_of_between hi y hi_y y_finite))
            u,
      )

  fast : (x y t : Float) → Runs zero_f x → Runs zero_f y → InUnit t → Runs zero_f (interpolate_of x y t)
  fast x y t r h u = (add-fits binary64 x _, mix_range x y t largest r.0 h.0 tt steady_27 r.1 h.1 u)

  pub interpolated_above : (a b : ClockSpeed) (t : Float) → Above lo (like b (read_in_of a b)) → Above hi b → InUnit t → Above lo (interpolate_speed_of a b t)
  interpolated_above a b t r h u = subst (Above lo) (sym (mix_is a b t)) (go b (read_in_of a b) r h)
    where
      go : (b : ClockSpeed) (x : Float) → Above lo (like b x) → Above hi b → Above lo (like b (interpolate_of x (number_of b) t))
      go (SecondsPerTick y) x r h = slow x y t r h u
      go (TicksPerSecond y) x r h = fast x y t r h u
      go (TicksPerMinute y) x r h = fast x y t r h u

-- so for a running speed that is read in the unit of a reachable one, and for two accepted ones of one unit
pub interpolated_running : (a b : ClockSpeed) (t : Float) → Running a → Reachable b → bad_reading a b ≡ false → InUnit t → Running (interpolate_speed_of a b t)
interpolated_running a b t r h k u = interpolated_above shortest (fin false 1 (negsuc 20)) (unfold fits in tt) (unfold le in tt) (record { least = unfold le in tt; most = unfold le in tt }) (omega arith) a b t (reading_running a b r k) h u

pub interpolated_reachable : (a b : ClockSpeed) (t : Float) → like b (read_in_of a b) ≡ a → Above (fin false 1 (negsuc 19)) a → Above (fin false 1 (negsuc 19)) b → InUnit t → Reachable (interpolate_speed_of a b t)
interpolated_reachable a b t e r h u =
    interpolated_above (fin false 1 (negsuc 20)) smallest (unfold fits in tt) (unfold le in tt) (record { least = unfold le in tt; most = unfold le in tt }) (omega arith) a b t
    (subst Reachable (sym e) (above_wider (fin false 1 (negsuc 20)) smallest a (unfold le in tt) r))
    h u
