-- What a set of a speed stores is what the definition leaves. Assumes nothing.
use Prim.Native.Nat.{ℕ}
use mathlib.Core.Path.{◌≡◌, ap}
use mathlib.Core.Bool.{Bool, true, false, cond}
use lib.ListN.{get_or, set}
use lib.Seq.{set-get_or}
use lib.Dec.{eqb}
use Rattle.std.specs.Prelude.{Result, Ok, Err}
use Rattle.doubles.specs.Doubles.{zero_f}
use Rattle.ids.specs.Tables.{done}
use Rattle.judge.specs.Judge.{first_fault}
use Rattle.judge.specs.declared.Refusal.{Refusal}
use Rattle.judge.proofs.Judged.{never_ok, never_zero_number}
use Rattle.times.specs.declared.tween.Tween.{Tween}
use Rattle.values.specs.Speeds.{speed_tweens}
use Rattle.values.specs.declared.clock_speed.ClockSpeed.{ClockSpeed}
use Rattle.values.specs.declared.clock_speed.ClockSpeed.TheVariants.{TicksPerSecond}
use Rattle.values.specs.declared.value.Value.{Value}
use Rattle.values.specs.declared.value.Value.TheVariants.{Fixed}
use Rattle.parameter.specs.Parameters.{Set, set_told, set_of, set_faults, try_set_of}
use Rattle.parameter.specs.declared.Parameter.{Parameter}
use Rattle.clock.specs.OneClock.{new_clock, sped_of}
use Rattle.clock.specs.declared.Clock.{Clock}
use Rattle.clock_table.specs.ClockTables.{by_set}
use Rattle.clock_table.specs.declared.Clocks.{Clocks}

-- any clock, for a read that is inside the table
abbrev pub at_rest : Clock
at_rest = new_clock (Fixed (TicksPerSecond zero_f))

-- r is what a set of a speed answered, and p the parameter that it left
module _ (x : Clock) (v : Value ClockSpeed) (w : Tween) (p : Parameter ClockSpeed) where
  abbrev either : Bool → Set ClockSpeed
  either b = cond b (record { refused = 0; parameter = set_of x.speed v w }) (record { refused = first_fault (set_faults speed_tweens x.speed v w); parameter = x.speed })

  -- a refused set leaves the parameter
  speed_kept : (r : Refusal) → set_told (Err r) p ≡ try_set_of speed_tweens x.speed v w → p ≡ x.speed
  unfolding try_set_of
  speed_kept r e = go (eqb (first_fault (set_faults speed_tweens x.speed v w)) 0) e
    where
      go : (b : Bool) → set_told (Err r) p ≡ either b → p ≡ x.speed
      go true e = absurd (never_ok r (ap (λ (s : Set ClockSpeed). s.refused) e))
      go false e = ap (λ (s : Set ClockSpeed). s.parameter) e

-- and so the clock
pub speed_stored :
    (t : Clocks) (i : ℕ) (d : Clock) (v : Value ClockSpeed) (w : Tween) (r : Result Unit Refusal) (p : Parameter ClockSpeed)
    → set_told r p ≡ try_set_of speed_tweens (get_or t.clocks i d).speed v w
    → done r (record { keys = t.keys; clocks = set t.clocks i (sped_of p (get_or t.clocks i d)) })
    ≡ by_set t i (get_or t.clocks i d) (try_set_of speed_tweens (get_or t.clocks i d).speed v w)
speed_stored t i d v w (Ok u) p e = rw (← e)
speed_stored t i d v w (Err r) p e =
    let k : p ≡ (get_or t.clocks i d).speed = speed_kept (get_or t.clocks i d) v w p r e in
    rw (← e, never_zero_number r, k, set-get_or t.clocks i d)
