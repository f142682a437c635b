-- 01 takes whole ticks off a sum one by one, and the definition takes them at once. Up to 2 ^ 53 the two come to the
-- same: `tick_by_tick_lem`. So they do for every sum of an accepted turn: `turn_by_tick`. RULES, whole-ticks. Assumes
-- nothing.
use mathlib.Core.Path.{◌≡◌, refl, sym, ◌∙◌, subst}
use Prim.Native.Nat.{ℕ, zero, suc, ◌+◌, ◌-◌, ◌^◌, ◌≤◌, ◌<◌}
use native.Mathlib.Omega.{arith}
use mathlib.Core.Bool.{Bool, true, false, cond}
use lib.Dec.{T, ltb}
use lib.IntN.{pos}
use lib.Ieee.{Float, fin, binary64, add, sub, le, fits}
use lib.Ieee.Fits.{add-fits, sub-fits}
use borrow.Author.Tests.{ltb-true, ltb-false}
use Rattle.doubles.specs.Doubles.{zero_f, one_f, fract_of}
use Rattle.doubles.specs.Intervals.{Between}
use Rattle.doubles.proofs.Unit.{add_mono, le_trans}
use Rattle.judge.specs.Answer.{Answer}
use Rattle.ticks.specs.WholeTicks.{room_for, taken_of}
use Rattle.ticks.specs.declared.Position.{Position}
use Rattle.ticks.proofs.Parts.{ticks_of}
use Rattle.ticks.proofs.OneLess.{limit_f, one_less}
use Rattle.ticks.proofs.Sums.{full, kept, taken_whole, taken_full, taken_room, taken_part}

-- 01's way, in k turns at most: while the sum is 1 or more, 1.0 comes off it and is a tick, unless the ticks are full
unfoldable pub tick_by_tick : ℕ → ℕ → Float → Answer Position
tick_by_tick zero n x = kept n x
tick_by_tick (suc k) n x = cond (le one_f x) (cond (ltb n (2 ^ 64 - 1)) (tick_by_tick k (n + 1) (sub binary64 x one_f)) full) (kept n x)

-- ---- one turn changes nothing

-- the answer is by the sum of the ticks, and by the fraction
room_same : (n k : ℕ) (x y : Float) → n + ticks_of x ≡ k + ticks_of y → fract_of x ≡ fract_of y → room_for n x ≡ room_for k y
unfolding room_for
room_same n k x y w f = rw (w, f)

module _ (x : Float) (F : T (fits binary64 x)) (h : Between one_f x limit_f) where
  one_off : (n : ℕ) → n < 2 ^ 64 - 1 → taken_of n x ≡ taken_of (n + 1) (sub binary64 x one_f)
  one_off n N =
      let y = sub binary64 x one_f in
      let o = one_less x F h in
      let w = o.whole in
      taken_whole n x h.least ∙ room_same n (n + 1) x y (omega arith) (sym o.fract) ∙ sym (taken_room (n + 1) y (omega arith) (sub-fits binary64 x one_f) o.known o.clear)

  no_room_lem : taken_of (2 ^ 64 - 1) x ≡ full
  no_room_lem = let w = (one_less x F h).whole in taken_full (2 ^ 64 - 1) x h.least (omega arith)

-- ---- all turns

pub tick_by_tick_lem : (k n : ℕ) (x : Float) → ticks_of x ≤ k → n ≤ 2 ^ 64 - 1 → T (fits binary64 x) → T (le x limit_f) → tick_by_tick k n x ≡ taken_of n x
unfolding tick_by_tick
tick_by_tick_lem zero n x K N F L = go (le one_f x) refl
  where
    go : (b : Bool) → le one_f x ≡ b → kept n x ≡ taken_of n x
    go false e = sym (taken_part n x e)
    go true e = let w = (one_less x F (record { least = subst T (sym e) tt; most = L })).whole in absurd (omega arith)
tick_by_tick_lem (suc k) n x K N F L = go (tick_by_tick_lem k (n + 1) (sub binary64 x one_f)) (le one_f x) refl
  where
    y : Float
    y = sub binary64 x one_f

    Rest : Type 0
    Rest = ticks_of y ≤ k → n + 1 ≤ 2 ^ 64 - 1 → T (fits binary64 y) → T (le y limit_f) → tick_by_tick k (n + 1) y ≡ taken_of (n + 1) y

    turn : Rest → Between one_f x limit_f → (b : Bool) → ltb n (2 ^ 64 - 1) ≡ b → cond b (tick_by_tick k (n + 1) y) full ≡ taken_of n x
    turn rest h true e =
        let o = one_less x F h in
        let w = o.whole in
        let l : n < 2 ^ 64 - 1 = ltb-true n (2 ^ 64 - 1) e in
        rest (omega arith) (omega arith) (sub-fits binary64 x one_f) o.near ∙ sym (one_off x F h n l)
    turn rest h false e = let l : 2 ^ 64 - 1 ≤ n = ltb-false n (2 ^ 64 - 1) e in sym (subst (λ (i : ℕ). taken_of i x ≡ full) (omega arith) (no_room_lem x F h))

    go : Rest → (b : Bool) → le one_f x ≡ b → cond b (cond (ltb n (2 ^ 64 - 1)) (tick_by_tick k (n + 1) y) full) (kept n x) ≡ taken_of n x
    go rest false e = sym (taken_part n x e)
    go rest true e = turn rest (record { least = subst T (sym e) tt; most = L }) (ltb n (2 ^ 64 - 1)) refl

-- ---- a clock's turn: a fraction of 0 to 1, and an advance that is not TOO_FAR

abbrev farthest : Float
farthest = fin false 1 (pos 16)

pub turn_by_tick : (n : ℕ) (f a : Float) → n ≤ 2 ^ 64 - 1 → Between zero_f f one_f → Between zero_f a farthest → tick_by_tick (ticks_of (add binary64 f a)) n (add binary64 f a) ≡ taken_of n (add binary64 f a)
turn_by_tick n f a N h k =
    let x = add binary64 f a in
    let r : Between zero_f x (add binary64 one_f farthest) = add_mono binary64 f a one_f farthest tt tt h k in
    tick_by_tick_lem (ticks_of x) n x (omega arith) N (add-fits binary64 f a) (le_trans x (add binary64 one_f farthest) limit_f r.most (unfold add le in tt))
