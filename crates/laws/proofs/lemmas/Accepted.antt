-- What was given to a call that has no faults: nothing of it is refused, and an accepted dt lies in 0..60. Assumes
-- nothing.
use Prim.Native.Nat.{ℕ, zero-le}
use native.Mathlib.Nat.{le_of_eq, le_trans as leq-trans, zero-mul}
use mathlib.Core.Path.{◌≡◌, refl, ap}
use mathlib.Core.Bool.{Bool, true, false, cond, true≢false}
use lib.IntN.{ℤ, pos}
use lib.Dec.{T, eqb}
use lib.Ieee.{Float, nan, inf, fin, down, le, is_nan}
use borrow.Author.Tests.{eqb-true}
use Rattle.doubles.specs.Doubles.{zero_f}
use Rattle.doubles.specs.Intervals.{Between}
use Rattle.doubles.proofs.Unit.{order→le, le_of_not_lt}
use Rattle.judge.specs.Judge.{no_faults, both_faults, dt_faults, bad_dt, first_fault}
use Rattle.judge.specs.declared.Faults.{Faults}
use Rattle.judge.proofs.Judged.{none_set}
use Rattle.values.proofs.clock_speed.Rates.{neither}

none : (f : Faults) → f.dt ≡ false → f.float ≡ false → f.speed ≡ false → f.ease ≡ false → f.map ≡ false → f.time ≡ false → f ≡ no_faults
none f a b c d e g = go f.dt f.float f.speed f.ease f.map f.time a b c d e g
  where
    go : (x y z u v w : Bool) → x ≡ false → y ≡ false → z ≡ false → u ≡ false → v ≡ false → w ≡ false → record { dt = x; float = y; speed = z; ease = u; map = v; time = w } ≡ no_faults
    go x y z u v w a b c d e g = cc

-- faults joined are none only where each part has none
pub no_faults_lem : (f g : Faults) → both_faults f g ≡ no_faults → (f ≡ no_faults) × (g ≡ no_faults)
no_faults_lem f g h =
    let a = neither f.dt g.dt (ap (λ (r : Faults). r.dt) h) in
    let b = neither f.float g.float (ap (λ (r : Faults). r.float) h) in
    let c = neither f.speed g.speed (ap (λ (r : Faults). r.speed) h) in
    let d = neither f.ease g.ease (ap (λ (r : Faults). r.ease) h) in
    let e = neither f.map g.map (ap (λ (r : Faults). r.map) h) in
    let i = neither f.time g.time (ap (λ (r : Faults). r.time) h) in
    (none f a.0 b.0 c.0 d.0 e.0 i.0, none g a.1 b.1 c.1 d.1 e.1 i.1)

-- a number with no minus sign
pub plus_least : (m : ℕ) (e : ℤ) → T (le zero_f (fin false m e))
plus_least m e = order→le false 0 (pos 0) false m e (leq-trans (le_of_eq (zero-mul (down e))) zero-le)

in_minute : (dt : Float) → bad_dt dt ≡ false → Between zero_f dt (fin false 15 (pos 2))
in_minute nan h = absurd (true≢false h)
in_minute (inf s) h = absurd (true≢false h)
in_minute (fin true m e) h = absurd (true≢false h)
in_minute (fin false m e) h = record {
  least = plus_least m e;
  most = le_of_not_lt (fin false 15 (pos 2)) (fin false m e) (unfold is_nan in refl) (unfold is_nan in refl) h;
}

pub dt_range : (dt : Float) → dt_faults dt ≡ no_faults → Between zero_f dt (fin false 15 (pos 2))
dt_range dt h = in_minute dt (ap (λ (r : Faults). r.dt) h)

-- a test by a call's faults: the first branch has none
pub judged_case : {A : Type 0} (P : A → Type 0) (f : Faults) (x y : A) → (f ≡ no_faults → P x) → P y → P (cond (eqb (first_fault f) 0) x y)
judged_case P f x y h k = go (eqb (first_fault f) 0) (eqb-true (first_fault f) 0)
  where
    go : (b : Bool) → (b ≡ true → first_fault f ≡ 0) → P (cond b x y)
    go true e = h (none_set f (e refl))
    go false e = k
