-- How an update of a clock ends: by TICKS_FULL and no other number where its ticks have no room, and else with a report
-- or none. Assumes nothing.
use Prim.Native.Nat.{ℕ}
use mathlib.Core.Path.{◌≡◌, refl}
use mathlib.Core.Bool.{Bool, true, false, cond}
use lib.Ieee.{Float, le}
use Rattle.std.specs.Bool.{then_some}
use Rattle.doubles.specs.Doubles.{one_f, fract_of}
use Rattle.judge.specs.Answer.{accepted, refused}
use Rattle.judge.specs.Numbers.{TICKS_FULL}
use Rattle.ticks.specs.WholeTicks.{by_count, room_for, taken_of}
use Rattle.clock.specs.OneClock.{report_of}

-- ticks that have no room are refused by TICKS_FULL
pub full_only : (n t : ℕ) (sum : Float) → refused n ≡ taken_of t sum → n ≡ TICKS_FULL
unfolding taken_of room_for
full_only n t sum e = go (le one_f sum) e
  where
    counted : (b : Bool) (k : ℕ) → refused n ≡ by_count (fract_of sum) (cond b (refused TICKS_FULL) (accepted k)) → n ≡ TICKS_FULL
    counted true k e = cc
    counted false k e = cc

    go : (b : Bool) → refused n ≡ cond b (room_for t sum) (accepted (record { ticks = t; fraction = sum })) → n ≡ TICKS_FULL
    go true e = counted _ _ e
    go false e = cc

-- a count that is reported where b holds
pub reported : (b : Bool) (n : ℕ) → then_some b n ≡ report_of b n
reported true n = refl
reported false n = refl
